-- What a failure means: which replies are right before it, and how legal orders part at quiet events.
use Rattle.std.proofs.Common.{◌≡◌, ◌<◌, ◌≤◌, ℕ, suc, Bool, List, Some, [], ◌∷◌, ◌++◌, length, length-append, append-nil, take, Contains, AllPairs, get_or, refl, sym, ap, subst, ◌∙◌, arith, inl, inr, ◌⊎◌}
use Rattle.std.proofs.lemmas.Bool.{cases_eq}
use Rattle.std.proofs.lemmas.List.{take_all}
use Rattle.std.proofs.lemmas.List.Elements.{Contains-get_or, Contains-append_right}
use Rattle.std.proofs.lemmas.List.Kept.{AllPairs-cons}
use Rattle.std.proofs.lemmas.Option.{slice_get_within}
use Rattle.lin_events.specs.declared.items.Item.{Item}
use Rattle.lin_events.specs.declared.calls.Call.{Call}
use Rattle.lin_events.specs.declared.calls.Name.{Name}
use Rattle.lin_events.specs.declared.calls.Reply.{Reply}
use Rattle.lin_events.specs.declared.events.Body.{Body}
use Rattle.lin_events.specs.declared.events.Body.TheVariants.{Invoke, Ok, Fail, Info}
use Rattle.lin_events.specs.declared.events.Event.{Event}
use Rattle.lin_events.specs.declared.shapes.Cause.{Cause}
use Rattle.lin_events.specs.declared.shapes.Cause.TheVariants.{RetiredProcess, BusyProcess, NotOfKind, NoInvocation, OtherCall, OtherKey}
use Rattle.lin_events.specs.declared.shapes.ProcessStatus.{ProcessStatus}
use Rattle.lin_events.specs.Alternation.{IsAlternating, IsReturn}
use Rattle.lin_events.specs.Operations.{IsCrashed, IsEnd, IsEvent, IsFailed, IsOk, IsOpen, IsOperation}
use Rattle.lin_events.specs.WellFormed.{Completes, Holds, IsBad, IsFirstCause, IsStatus, IsWellFormed}
use Rattle.lin_events.specs.WellFormedLaws.{BadWithinBeginnings, WellFormedIsAlternating}
use Rattle.lin_events.specs.lemmas.OneMore.{alternates_before, end_before, one_open, open_until, operation_before, operation_kept}
use Rattle.lin_lists.specs.lemmas.Elements.{first_or_rest, nothing_in}
use Rattle.lin_lists.specs.lemmas.Lists.{get_cases, get_last}
use Rattle.lin_lists.specs.lemmas.Taken.{take_ahead}
use Rattle.lin_objects.specs.declared.kinds.Kind.{Kind}
use Rattle.lin_objects.specs.declared.states.State.{State}
use Rattle.lin_objects.specs.Steps.{Step, start}
use Rattle.lin_order.specs.declared.placed.Placed.{Placed}
use Rattle.lin_order.specs.ConfigurationLaws.{FailLaw, LegalOrdersEnd, OkLaw}
use Rattle.lin_order.specs.Configurations.{EndsIn, IsAdded, IsRising}
use Rattle.lin_order.specs.Linearizable.{IsLegalOrderAs, IsLinearizableAs}
use Rattle.lin_order.specs.lemmas.Adding.{add_later, rest_rising}
use Rattle.lin_order.specs.lemmas.Completing.{fail_completes, ok_completes}
use Rattle.lin_order.specs.lemmas.OneEnd.{one_end, one_ending, one_event}
use Rattle.lin_order.specs.Orders.{IsBefore}
use Rattle.lin_possibilities.specs.Possible.{Answers}
use Rattle.lin_tables.specs.WindowOperations.{IsFailing, IsQuietAt}
use Rattle.lin_explain.specs.Laws.{IsAlwaysPlaced, IsParted, IsRight, RecordsWrong, ok_with}
use Rattle.lin_explain.specs.Own.{without_last}
use Rattle.lin_explain.specs.inner.Laws.{FailuresMean}

-- the reply of the process among pairs, if it has one
reply_of : (process : ℕ) (xs : List (ℕ × Reply)) → ((reply : Reply) × Contains xs (process, reply)) ⊎ ((reply : Reply) → Contains xs (process, reply) → ⊥)
reply_of process [] = inr (λ reply there. nothing_in (process, reply) there)
reply_of process (x ∷ xs) = elim (cases_eq x.0 process) [
  | inl same ↦ inl (x.1, (0, omega arith, λ i. (same i, x.1)))
  | inr other ↦ elim (reply_of process xs) [
    | inl found ↦ inl (found.0, Contains-append_right (x ∷ []) xs (process, found.0) found.1)
    | inr none ↦ inr (λ reply there. elim (first_or_rest x xs (process, reply) there) [
      | inl first ↦ other (ap (λ (y : ℕ × Reply). y.0) first)
      | inr rest ↦ none reply rest
    ])
  ]
]

-- an element after the first has a larger process
above_first : (x : ℕ × Reply) (xs : List (ℕ × Reply)) (y : ℕ × Reply) → IsRising (x ∷ xs) → Contains xs y → x.0 < y.0
above_first x xs y rising there = subst (λ (z : ℕ × Reply). x.0 < z.0) there.2 (rising 0 (suc there.0) y (omega arith) (omega (arith, there.1)))

-- pairs without one of them
without_pair : (process : ℕ) (reply : Reply) (xs : List (ℕ × Reply)) → IsRising xs → Contains xs (process, reply) → (less : List (ℕ × Reply)) × IsAdded process reply less xs
without_pair process reply [] rising there = absurd (nothing_in (process, reply) there)
without_pair process reply (x ∷ xs) rising there = elim (first_or_rest x xs (process, reply) there) [
  | inl same ↦ (
    xs,
    record {
      absent = λ other later. let above = above_first x xs (process, other) rising later in let first = ap (λ (y : ℕ × Reply). y.0) same in omega arith;
      before = rest_rising x xs rising;
      rising = rising;
      kept = λ y later. Contains-append_right (x ∷ []) xs y later;
      has = there;
      was = λ y among. elim (first_or_rest x xs y among) [
        | inl first ↦ inr (sym same ∙ first)
        | inr rest ↦ inl rest
      ];
    },
  )
  | inr later ↦
      let less = without_pair process reply xs (rest_rising x xs rising) later in
      (x ∷ less.0, add_later process reply x less.0 (AllPairs-cons (λ p q. p.0 < q.0) x less.0 (λ k d inside. above_first x xs (get_or less.0 k d) rising (less.1.kept (get_or less.0 k d) (Contains-get_or less.0 k d inside))) less.1.before) xs (above_first x xs (process, reply) rising later) less.1)
]

-- causes don't look at replies
same_cause : (functions : Item → Name → Bool) (status : ProcessStatus) (ending : Event) (name : Name) (a b : Reply) (cause : Cause)
    → Holds functions status (ok_with ending name a) cause → Holds functions status (ok_with ending name b) cause
same_cause functions status ending name a b RetiredProcess holds = holds
same_cause functions status ending name a b BusyProcess holds = absurd (no_invoke holds.0 holds.1)
  where
    no_invoke : (call : Call) → Ok name a ≡ Invoke call → ⊥
    no_invoke call e = cc
same_cause functions status ending name a b NotOfKind holds = absurd (no_invoke holds.0 holds.1)
  where
    no_invoke : (call : Call) → Ok name a ≡ Invoke call → ⊥
    no_invoke call e = cc
same_cause functions status ending name a b NoInvocation holds = holds
same_cause functions status ending name a b OtherCall holds = holds
same_cause functions status ending name a b OtherKey holds = holds

module _ (within : BadWithinBeginnings) (functions : Item → Name → Bool) (ahead : List Event) where
  ahead_taken : (event : Event) → take (length ahead) (ahead ++ event ∷ []) ≡ ahead
  ahead_taken event = take_ahead (length ahead) ahead (event ∷ []) [] (omega arith) ∙ ap (take (length ahead)) (append-nil ahead) ∙ take_all (length ahead) ahead (omega arith)

  -- so a history is well-formed whatever its last ok replies
  other_reply : (ending : Event) (name : Name) (a b : Reply) → IsWellFormed functions (ahead ++ ok_with ending name a ∷ []) → IsWellFormed functions (ahead ++ ok_with ending name b ∷ [])
  other_reply ending name a b fine k cause bad = elim (get_cases ahead (ok_with ending name b) k bad.event bad.stands) [
    | inl old ↦
        let inside : k < length ahead = slice_get_within ahead k bad.event old in
        let cut = (within functions (ahead ++ ok_with ending name b ∷ []) (length ahead) k cause).1 (inside, bad) in
        let moved = subst (λ l. IsBad functions l k cause) (ahead_taken (ok_with ending name b) ∙ sym (ahead_taken (ok_with ending name a))) cut in
        fine k cause ((within functions (ahead ++ ok_with ending name a ∷ []) (length ahead) k cause).0 moved).1
    | inr new ↦ fine (length ahead) cause (record {
      event = ok_with ending name a;
      stands = get_last ahead (ok_with ending name a);
      status = bad.status;
      found = status_found new.0 new.1 bad.found;
      caused = first_cause (subst (λ (e : Event). IsFirstCause functions bad.status e cause) (sym new.1) bad.caused);
    })
  ]
    where
      status_found : k ≡ length ahead → ok_with ending name b ≡ bad.event → IsStatus (take k (ahead ++ ok_with ending name b ∷ [])) bad.event.process bad.status
          → IsStatus (take (length ahead) (ahead ++ ok_with ending name a ∷ [])) ending.process bad.status
      status_found place is found =
          let cut : take k (ahead ++ ok_with ending name b ∷ []) ≡ take (length ahead) (ahead ++ ok_with ending name a ∷ []) =
          ap (λ n. take n (ahead ++ ok_with ending name b ∷ [])) place ∙ ahead_taken (ok_with ending name b) ∙ sym (ahead_taken (ok_with ending name a)) in
          subst (λ l. IsStatus l ending.process bad.status) cut
          (subst (λ (e : Event). IsStatus (take k (ahead ++ ok_with ending name b ∷ [])) e.process bad.status) (sym is) found)

      first_cause : IsFirstCause functions bad.status (ok_with ending name b) cause → IsFirstCause functions bad.status (ok_with ending name a) cause
      first_cause is = record {
        holds = same_cause functions bad.status ending name b a cause is.holds;
        first = λ other smaller holds. is.first other smaller (same_cause functions bad.status ending name a b other holds);
      }

module _ (alternates : WellFormedIsAlternating) (within : BadWithinBeginnings) (kind : Kind) (oked : OkLaw (start kind) (Step kind)) (failed : FailLaw (start kind) (Step kind))
    (ended : LegalOrdersEnd (start kind) (Step kind)) where
  module _ (functions : Item → Name → Bool) (ahead : List Event) (ending : Event) (fine : IsWellFormed functions (ahead ++ ending ∷ [])) where
    alternating : IsAlternating functions (ahead ++ ending ∷ [])
    alternating = (alternates functions (ahead ++ ending ∷ [])).0 fine

    alternating_ahead : IsAlternating functions ahead
    alternating_ahead = alternates_before ahead ending functions alternating

    fine_ahead : IsWellFormed functions ahead
    fine_ahead = (alternates functions ahead).1 alternating_ahead

    -- an order that ends in a configuration is legal
    legal_since : (h : List Event) (order : List Placed) (c : State × List (ℕ × Reply)) → EndsIn (start kind) (Step kind) h order c → IsLegalOrderAs kind h order
    legal_since h order c e = record { order_of = e.order_of; legal = (c.0, e.runs) }

    answers_since : (order : List Placed) (c : State × List (ℕ × Reply)) (process : ℕ) (reply : Reply) → EndsIn (start kind) (Step kind) ahead order c
        → Contains c.1 (process, reply) → Answers kind ahead process order reply
    answers_since order c process reply e there =
        let s = e.placed.sound process reply there in
        record { legal = legal_since ahead order c e; at = s.0; key = s.1; call = s.2; is_open = s.3; placed = s.4 }

    -- a reply is right where the operation may return it
    module _ (name : Name) (recorded : Reply) (is : ending.body ≡ Ok name recorded) where
      recorded_is : ending ≡ ok_with ending name recorded
      recorded_is = ap (λ b. record ending { body = b }) is

      fine_with : (reply : Reply) → IsWellFormed functions (ahead ++ ok_with ending name reply ∷ [])
      fine_with reply = other_reply within functions ahead ending name recorded reply (subst (λ (e : Event). IsWellFormed functions (ahead ++ e ∷ [])) recorded_is fine)

      right_legal : (reply : Reply) → IsRight kind ahead ending.process reply → IsLinearizableAs kind (ahead ++ ok_with ending name reply ∷ [])
      right_legal reply right =
          let a = right.1 in
          let e = ended functions ahead right.0 fine_ahead a.legal in
          let there = e.1.placed.complete a.at ending.process a.key a.call reply a.is_open a.placed in
          let less = without_pair ending.process reply e.0.1 e.1.placed.rising there in
          let kept = (oked functions ahead (ok_with ending name reply) name reply refl (fine_with reply)).kept right.0 (e.0.0, less.0) e.0.1 e.1 less.1 in
          (right.0, legal_since (ahead ++ ok_with ending name reply ∷ []) right.0 (e.0.0, less.0) kept)

      legal_right : (reply : Reply) → IsLinearizableAs kind (ahead ++ ok_with ending name reply ∷ []) → IsRight kind ahead ending.process reply
      legal_right reply legal =
          let e = ended functions (ahead ++ ok_with ending name reply ∷ []) legal.0 (fine_with reply) legal.1 in
          let was = (oked functions ahead (ok_with ending name reply) name reply refl (fine_with reply)).was legal.0 e.0 e.1 in
          (legal.0, answers_since legal.0 (e.0.0, was.0) ending.process reply was.1 was.2.has)

      records_wrong : (IsLinearizableAs kind (ahead ++ ending ∷ []) → ⊥) → RecordsWrong kind ahead ending name recorded
      records_wrong fails = record {
        right = λ reply. (right_legal reply, legal_right reply);
        wrong = λ right. fails (subst (λ (e : Event). IsLinearizableAs kind (ahead ++ e ∷ [])) (sym recorded_is) (right_legal recorded right));
      }

    -- a fail excludes only orders that place the operation
    is_placed : (name : Name) → ending.body ≡ Fail name → (IsLinearizableAs kind (ahead ++ ending ∷ []) → ⊥) → IsAlwaysPlaced kind ahead ending.process
    is_placed name is fails order legal =
        let e = ended functions ahead order fine_ahead legal in
        elim (reply_of ending.process e.0.1) [
          | inl has ↦ (has.0, answers_since order e.0 ending.process has.0 e.1 has.1)
          | inr none ↦ absurd (fails (order, legal_since (ahead ++ ending ∷ []) order e.0 ((failed functions ahead ending name is fine order e.0).1 (e.1, none))))
        ]

    -- the operation that the event ends was open, and no other of its process
    abbrev WasAlone : ℕ → Type 0
    WasAlone call = IsFailing (ahead ++ ending ∷ []) call × ((called : Call) × IsOpen ahead call ending.process ending.key called)
        × ((at : ℕ) (key : Item) (other : Call) → IsOpen ahead at ending.process key other → at ≡ call)

    was_alone : (name : Name) → Completes ending.body name → ((at : ℕ) → IsEnd (ahead ++ ending ∷ []) at (length ahead) ending → IsReturn (ahead ++ ending ∷ []) at (length ahead))
        → (call : ℕ) × WasAlone call
    was_alone name is returns =
        let done = alternating.completed (length ahead) ending name (get_last ahead ending) is in
        let was = open_until ahead ending done.0 done.4 in
        let later : done.0 < length ahead = done.4.later in
        let open' : IsOpen ahead done.0 ending.process ending.key done.1 = record {
          begins = operation_before ahead ending done.0 ending.process ending.key done.1 (λ same. omega arith) done.2;
          no_ok = was.no_ok;
          no_fail = was.no_fail;
        } in
        let last : suc (length ahead) ≡ length (ahead ++ ending ∷ []) = omega (arith, length-append ahead (ending ∷ [])) in (
          done.0,
          ((length ahead, returns done.0 done.4, last), (done.1, open'), λ at key other again. one_open functions ahead alternating_ahead at done.0 ending.process key ending.key other done.1 again open'),
        )

    last_event : (end : ℕ) (event : Event) → IsEvent (ahead ++ ending ∷ []) end event → suc end ≡ length (ahead ++ ending ∷ []) → event ≡ ending
    last_event end event there is =
        let place : end ≡ length ahead = omega (arith, length-append ahead (ending ∷ []), is) in
        one_event (ahead ++ ending ∷ []) (length ahead) event ending (subst (λ k. IsEvent (ahead ++ ending ∷ []) k event) place there) (get_last ahead ending)

    is_alone : (call : ℕ) → IsFailing (ahead ++ ending ∷ []) call → (found : ℕ) × WasAlone found
    is_alone call failing = elim failing.1 [
      | inl ok ↦
          let same = last_event failing.0 ok.1.0 ok.1.1.ends failing.2 in
          let body : ending.body ≡ Ok ok.1.2 ok.0 = sym (ap (λ (e : Event). e.body) same) ∙ ok.1.3 in
          was_alone ok.1.2 (ok_completes ending.body ok.1.2 ok.0 body) (λ at e. inl (ok.0, (ending, e, ok.1.2, body)))
      | inr fail ↦
          let same = last_event failing.0 fail.0 fail.1.ends failing.2 in
          let body : ending.body ≡ Fail fail.2 = sym (ap (λ (e : Event). e.body) same) ∙ fail.3 in
          was_alone fail.2 (fail_completes ending.body fail.2 body) (λ at e. inr (ending, e, fail.2, body))
    ]

    -- legal orders part at a quiet event
    module _ (place : ℕ) (quiet : IsQuietAt (ahead ++ ending ∷ []) place) (order : List Placed) (legal : IsLegalOrderAs kind ahead order) where
      has_crashed : (at end later : ℕ) (last : Event) → IsEnd ahead at end last → end < later → (IsBefore ahead at later → ⊥) → (IsFailed ahead at → ⊥) → IsCrashed ahead at
      has_crashed at end later last e early not_before not_failed = by last.body refl
        where
          by : (body : Body) → last.body ≡ body → IsCrashed ahead at
          by (Invoke call) is = absurd (never (alternating_ahead.returned at end e.process e.key last.key e.call call e.later e.begins again))
            where
              again : IsOperation ahead end e.process last.key call
              again = e.ends ∙ ap (λ (x : Event). Some x) (ap (λ b. record last { body = b }) is ∙ ap (λ p. record last { process = p; body = Invoke call }) e.same)

              never : (before : ℕ) × (before < end) × IsReturn ahead at before → ⊥
              never found = elim found.2 [
                | inl ok ↦ let one = one_end ahead at end found.0 last ok.1.0 e ok.1.1 in omega (arith, one, found.1)
                | inr fail ↦ let one = one_end ahead at end found.0 last fail.0 e fail.1 in omega (arith, one, found.1)
              ]
          by (Ok name reply) is = absurd (not_before (end, reply, (last, e, name, is), early))
          by (Fail name) is = absurd (not_failed (end, last, e, name, is))
          by (Info name) is = (end, last, e, name, is)

      crashed_behind : AllPairs (λ p q. place ≤ p.at → q.at < place → IsCrashed ahead q.at) order
      crashed_behind i j d below inside from before =
          let p = get_or order i d in
          let q = get_or order j d in
          let p_is = legal.order_of.operations i d (omega arith) in
          let q_is = legal.order_of.operations j d inside in
          let p_inside : p.at < length ahead = slice_get_within ahead p.at _ p_is.1.2 in
          let over = quiet.ended q.at before (q_is.0, (q_is.1.0, q_is.1.1, operation_kept ahead ending q.at q_is.1.0 q_is.1.1 q_is.0 q_is.1.2)) in
          let e = end_before ahead ending q.at over.0 over.1 (omega (arith, over.3)) over.2 in
          has_crashed q.at over.0 p.at over.1 e (omega (arith, over.3)) (legal.order_of.real_time i j d below inside) (legal.order_of.none_failed j d inside)

      never_crashed : (at end : ℕ) (reply : Reply) → IsOk ahead at end reply → IsCrashed ahead at → ⊥
      never_crashed at end reply ok crashed =
          let bodies = sym ok.3 ∙ ap (λ (x : Event). x.body) (one_ending ahead at end crashed.0 ok.0 crashed.1 ok.1 crashed.2) ∙ crashed.4 in cc

      is_parted : IsParted ahead place order
      is_parted = record {
        crashed = crashed_behind;
        ok_ahead = λ at end reply before ok. (
          legal.order_of.each_ok at end reply tt ok,
          λ i j d below inside from same.
              let crashed = crashed_behind i j d below inside from (omega (arith, same, before)) in
              never_crashed at end reply ok (subst (IsCrashed ahead) same crashed),
        );
      }

  pub is_explained : FailuresMean kind
  is_explained h ending is = record {
    fails = is.fails;
    before = is.before.legal;
    failing =
        let alone = is_alone functions ahead ending fine is.failing.0 (subst (λ l. IsFailing l is.failing.0) is.ends is.failing.1) in
        (alone.0, record { failing = subst (λ l. IsFailing l alone.0) (sym is.ends) alone.1.0; was_open = alone.1.1; alone = alone.1.2 });
    ok = λ name recorded body. records_wrong functions ahead ending fine name recorded body fails;
    fail = λ name body. is_placed functions ahead ending fine name body fails;
    quiet = λ place quiet order legal. is_parted functions ahead ending fine place (subst (λ l. IsQuietAt l place) is.ends quiet) order legal;
  }
    where
      functions : Item → Name → Bool
      functions = is.well_formed.0

      ahead : List Event
      ahead = without_last h

      fine : IsWellFormed functions (ahead ++ ending ∷ [])
      fine = subst (IsWellFormed functions) is.ends is.well_formed.1

      fails : IsLinearizableAs kind (ahead ++ ending ∷ []) → ⊥
      fails lin = is.fails (subst (IsLinearizableAs kind) (sym is.ends) lin)
