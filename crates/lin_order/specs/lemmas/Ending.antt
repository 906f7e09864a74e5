-- Where legal orders end: the empty one, and each of a well-formed history.
use Rattle.std.proofs.Common.{◌≡◌, ◌≢◌, ℕ, zero, suc, ◌<◌, Bool, List, [], ◌∷◌, ◌++◌, length, AllPairs, Option, ◌∙◌, ◌⊎◌, inl, inr, refl, sym, ap, subst, arith, Some, None, slice_get}
use Rattle.std.proofs.lemmas.Bool.{cases_eq, cases_lt}
use Rattle.std.proofs.lemmas.Option.{slice_get_within}
use Rattle.std.proofs.lemmas.List.{append-nil, append_assoc}
use Rattle.std.proofs.lemmas.List.Elements.{Contains-append_left, Contains-append_right, Contains-push_cases}
use Rattle.lin_events.specs.declared.items.Item.{Item}
use Rattle.lin_events.specs.declared.calls.Call.{Call}
use Rattle.lin_events.specs.declared.calls.Name.{Name}
use Rattle.lin_events.specs.declared.calls.Reply.{Reply}
use Rattle.lin_events.specs.declared.events.Body.{Body}
use Rattle.lin_events.specs.declared.events.Body.TheVariants.{Invoke, Ok, Fail, Info}
use Rattle.lin_events.specs.declared.events.Event.{Event}
use Rattle.lin_events.specs.Alternation.{IsAlternating}
use Rattle.lin_events.specs.Operations.{IsOf, IsOperation, IsEnd, IsOk, IsFailed, IsOpen}
use Rattle.lin_order.specs.declared.placed.Placed.{Placed}
use Rattle.lin_order.specs.Orders.{IsCall, IsOrder}
use Rattle.lin_order.specs.Linearizable.{Runs, IsLegalOrderBy}
use Rattle.lin_order.specs.Configurations.{IsPlacedBy, EndsIn}
use Rattle.lin_order.specs.ConfigurationLaws.{AtStart}
use Rattle.lin_order.specs.lemmas.OneEnd.{one_event, one_ending}
use Rattle.lin_order.specs.lemmas.Empty.{empty_order}
use Rattle.lin_lists.specs.lemmas.Elements.{nothing_in, pairs_left, pairs_last}
use Rattle.lin_order.specs.lemmas.Adding.{can_add}
use Rattle.lin_events.specs.lemmas.OneMore.{one_caller, one_open}
use Rattle.lin_order.specs.lemmas.Again.{operation_of}
use Rattle.lin_order.specs.lemmas.Placing.{place_placed}
use Rattle.lin_order.specs.lemmas.Quiet.{IsQuiet, invoke_quiet, info_quiet}

empty_placed : (h : List Event) → IsPlacedBy h [] []
empty_placed h = record {
  rising = λ i j d below within. absurd (omega arith);
  sound = λ p r there. absurd (nothing_in (p, r) there);
  complete = λ at p key call r is_open there. absurd (nothing_in (record { at = at; reply = r }) there);
}

module _ {S : Type 0} (start : S) (step : S → Call → S → Reply → Type 0) where
  pub start_lem : AtStart start step
  start_lem = (
    record { order_of = empty_order _; runs = refl; placed = empty_placed [] },
    λ c is. by is.0 c.1 is.1.order_of is.1.runs is.1.placed refl,
  )
    where
      by : {c : S × List (ℕ × Reply)} (o : List Placed) (placed : List (ℕ × Reply)) → IsOrder [] o → Runs step [] start o c.0 → IsPlacedBy [] o placed → c.1 ≡ placed → c ≡ (start, [])
      by [] [] order runs is e = λ i. (sym runs i, e i)
      by [] (p ∷ ps) order runs is e = let s = is.sound p.0 p.1 (0, omega arith, refl) in absurd (nothing_in (record { at = s.0; reply = p.1 }) s.4)
      by (p ∷ ps) placed order runs is e = let call = runs.2.2 in cc

module _ (h : List Event) (at process : ℕ) where
  -- the process's next event of the first ones, if there is one
  next_below : (n : ℕ) → ((k : ℕ) × (at < k) × (k < n) × IsOf h process k × ((j : ℕ) → at < j → j < k → IsOf h process j → ⊥)) ⊎ ((k : ℕ) → at < k → k < n → IsOf h process k → ⊥)
  next_below zero = inr (λ k after inside of_it. omega arith)
  next_below (suc n) = elim (next_below n) [
    | inl found ↦ inl (found.0, found.1, omega (arith, found.2), found.3, found.4)
    | inr none ↦ elim (cases_lt at n) [
      | inl after ↦ elim (is_of n) [
        | inl here ↦ inl (n, after, omega arith, here, none)
        | inr other ↦ inr (λ k later inside of_it. elim (cases_eq k n) [
          | inl same ↦ other (subst (IsOf h process) same of_it)
          | inr differs ↦ none k later (omega arith) of_it
        ])
      ]
      | inr past ↦ inr (λ k later inside of_it. omega arith)
    ]
  ]
    where
      is_of : (k : ℕ) → IsOf h process k ⊎ (IsOf h process k → ⊥)
      is_of k = by (slice_get h k) refl
        where
          by : (o : Option Event) → slice_get h k ≡ o → IsOf h process k ⊎ (IsOf h process k → ⊥)
          by None is = inr (λ of_it. let there = of_it.1 in cc)
          by (Some event) is = elim (cases_eq event.process process) [
            | inl same ↦ inl (event, is, same)
            | inr other ↦ inr (λ of_it. other (ap (λ (e : Event). e.process) (one_event h k event of_it.0 is of_it.1) ∙ of_it.2))
          ]

  -- an operation is open, or not
  pub open_or_not : (key : Item) (call : Call) → IsOperation h at process key call → IsOpen h at process key call ⊎ (IsOpen h at process key call → ⊥)
  open_or_not key call begins = elim (next_below (length h)) [
    | inl found ↦ by found.3.0.body refl (record {
      process = process;
      key = key;
      call = call;
      begins = begins;
      later = found.1;
      ends = found.3.1;
      same = found.3.2;
      least = found.4;
    })
    | inr none ↦ inl (record {
      begins = begins;
      no_ok = λ end reply ok. no_end none end ok.0 ok.1;
      no_fail = λ f. no_end none f.0 f.1 f.2;
    })
  ]
    where
      no_end : ((k : ℕ) → at < k → k < length h → IsOf h process k → ⊥) → (end : ℕ) (ending : Event) → IsEnd h at end ending → ⊥
      no_end none end ending e =
          let mine = one_caller h at e.process process e.key key e.call call e.begins begins in
          none end e.later (slice_get_within h end ending e.ends) (ending, e.ends, e.same ∙ mine)

      unknown : (end : ℕ) (ending : Event) → IsQuiet ending.body → IsEnd h at end ending → IsOpen h at process key call
      unknown end ending quiet e = record {
        begins = begins;
        no_ok = λ b reply ok. quiet.0 ok.2 reply (ap (λ (x : Event). x.body) (one_ending h at end b ending ok.0 e ok.1) ∙ ok.3);
        no_fail = λ f. quiet.1 f.3 (ap (λ (x : Event). x.body) (one_ending h at end f.0 ending f.1 e f.2) ∙ f.4);
      }

      by : {end : ℕ} {ending : Event} (body : Body) → ending.body ≡ body → IsEnd h at end ending → IsOpen h at process key call ⊎ (IsOpen h at process key call → ⊥)
      by {end} {ending} (Ok name reply) is e = inr (λ is_open. is_open.no_ok end reply (ending, e, name, is))
      by {end} {ending} (Fail name) is e = inr (λ is_open. is_open.no_fail (end, ending, e, name, is))
      by {end} {ending} (Invoke again) is e = inl (unknown end ending (invoke_quiet ending.body again is) e)
      by {end} {ending} (Info name) is e = inl (unknown end ending (info_quiet ending.body name is) e)

module _ (functions : Item → Name → Bool) (h : List Event) (alternates : IsAlternating functions h) where
  -- one more operation
  placed_more : (o : List Placed) (p : Placed) → AllPairs (λ q r. q.at ≢ r.at) (o ++ p ∷ []) → (call : Call) → IsCall h p.at call → (placed : List (ℕ × Reply)) → IsPlacedBy h o placed
      → (more : List (ℕ × Reply)) × IsPlacedBy h (o ++ p ∷ []) more
  placed_more o p once call is placed so_far = elim (open_or_not h p.at is.0 is.1 call is.2) [
    | inl is_open ↦
        let added = can_add is.0 p.reply placed so_far.rising (λ other there.
        let s = so_far.sound is.0 other there in
        let one = one_open functions h alternates s.0 p.at is.0 s.1 is.1 s.2 call s.3 is_open in
        pairs_last (λ q r. q.at ≢ r.at) o p (record { at = s.0; reply = other }) once s.4 one) in
        (added.0, place_placed h o p is.0 is.1 call is_open placed added.0 added.1 so_far)
    | inr not_open ↦ (
      placed,
      record {
        rising = so_far.rising;
        sound = λ q r there.
            let s = so_far.sound q r there in
            (s.0, s.1, s.2, s.3, Contains-append_left o (p ∷ []) (record { at = s.0; reply = r }) s.4);
        complete = λ at q key c r is_open there. elim (Contains-push_cases o p (record { at = at; reply = r }) there) [
          | inl old ↦ so_far.complete at q key c r is_open old
          | inr new ↦ absurd (not_open (record {
            begins = is.2;
            no_ok = λ end s ok. is_open.no_ok end s (subst (λ k. IsOk h k end s) (ap (λ (x : Placed). x.at) new) ok);
            no_fail = λ f. is_open.no_fail (subst (IsFailed h) (ap (λ (x : Placed). x.at) new) f);
          }))
        ];
      },
    )
  ]

  -- what the order places of the open operations
  placed_of : (rest o : List Placed) → IsOrder h (o ++ rest) → (placed : List (ℕ × Reply)) → IsPlacedBy h o placed → (all : List (ℕ × Reply)) × IsPlacedBy h (o ++ rest) all
  placed_of [] o is placed so_far = (placed, subst (λ l. IsPlacedBy h l placed) (sym (append-nil o)) so_far)
  placed_of (p ∷ rest) o is placed so_far =
      let moved = append_assoc o (p ∷ []) rest in
      let op = operation_of h (o ++ p ∷ rest) is p (Contains-append_right o (p ∷ rest) p (0, omega arith, refl)) in
      let once = pairs_left (λ q r. q.at ≢ r.at) (o ++ p ∷ []) rest (subst (AllPairs (λ q r. q.at ≢ r.at)) (sym moved) is.once) in
      let more = placed_more o p once op.0 op.1 placed so_far in
      let all = placed_of rest (o ++ p ∷ []) (subst (IsOrder h) (sym moved) is) more.0 more.1 in
      (all.0, subst (λ l. IsPlacedBy h l all.0) moved all.1)

  pub ends : {S : Type 0} (start : S) (step : S → Call → S → Reply → Type 0) (o : List Placed) → IsLegalOrderBy start step h o → (c : S × List (ℕ × Reply)) × EndsIn start step h o c
  ends start step o is =
      let all = placed_of o [] is.order_of [] (empty_placed h) in
      ((is.legal.0, all.0), record { order_of = is.order_of; runs = is.legal.1; placed = all.1 })
