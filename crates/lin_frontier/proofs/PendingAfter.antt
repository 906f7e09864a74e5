-- The operations that are open after one more event.
use Rattle.std.proofs.Common.{◌≡◌, ◌≢◌, ◌↔◌, ℕ, ◌<◌, Bool, true, false, not, ◌||◌, nat_eq, true≢false, List, [], ◌∷◌, ◌++◌, length, take, filter, map, get_or, Contains, All, AllPairs, IsTrue, ◌⊎◌, inl, inr, refl, sym, ap, subst, ◌∙◌, arith, length-append}
use Rattle.std.proofs.lemmas.Bool.{cases_eq, cases_lt}
use Rattle.std.proofs.lemmas.Bool.Decides.{Decides-eqb as Decides-nat_eq}
use Rattle.std.proofs.lemmas.List.{get_or-map, get_or_append_left, length-map}
use Rattle.std.proofs.lemmas.Option.{slice_get_within}
use Rattle.std.proofs.lemmas.List.Elements.{Contains-append_left, Contains-get_or, Contains-push, Contains-push_cases}
use Rattle.std.proofs.lemmas.List.Kept.{AllPairs-filter}
use Rattle.lin_events.specs.declared.items.Item.{Item}
use Rattle.lin_events.specs.declared.calls.Call.{Call}
use Rattle.lin_events.specs.declared.calls.Name.{Name}
use Rattle.lin_events.specs.declared.calls.Reply.{Reply}
use Rattle.lin_events.specs.declared.events.Body.{Body}
use Rattle.lin_events.specs.declared.events.Body.TheVariants.{Invoke, Ok, Fail, Info}
use Rattle.lin_events.specs.declared.events.Event.{Event}
use Rattle.lin_events.specs.Alternation.{IsAlternating}
use Rattle.lin_events.specs.Operations.{IsCrashed, IsEnd, IsOperation, IsOpen}
use Rattle.lin_events.specs.WellFormed.{Completes, IsWellFormed}
use Rattle.lin_events.specs.WellFormedLaws.{BeginningsAreWellFormed, WellFormedIsAlternating}
use Rattle.lin_order.specs.ConfigurationLaws.{with_event}
use Rattle.lin_frontier.specs.declared.pending.Open.{Open}
use Rattle.lin_frontier.specs.Frontiers.{IsNextEvent, IsPending}
use Rattle.lin_frontier.specs.Placing.{marked}
use Rattle.lin_events.specs.lemmas.OneMore.{completes, end_cases, end_inside, end_kept, invoked, one_caller, one_open, open_before, open_kept, open_other, operation_kept}
use Rattle.lin_lists.specs.lemmas.Lists.{get_last}
use Rattle.lin_events.specs.lemmas.StatusLemmas.{one_event}
use Rattle.lin_frontier.specs.lemmas.Inserting.{kept_by, passed_by, other_process, differs}

-- with one more whose position is new, no two have one position
pairs_push : (xs : List Open) (x : Open) → AllPairs (λ o p. o.at ≢ p.at) xs → All (λ o. o.at ≢ x.at) xs → AllPairs (λ o p. o.at ≢ p.at) (xs ++ x ∷ [])
pairs_push xs x all new i j d below inside = elim (cases_lt j (length xs)) [
  | inl earlier ↦ subst (λ (o : Open). o.at ≢ (get_or (xs ++ x ∷ []) j d).at) (sym (left xs i (omega arith))) (subst (λ (o : Open). (get_or xs i d).at ≢ o.at) (sym (left xs j earlier)) (all i j d below earlier))
  | inr past ↦
      let many = length-append xs (x ∷ []) in
      let here : j ≡ length xs = omega arith in
      subst (λ (o : Open). o.at ≢ (get_or (xs ++ x ∷ []) j d).at) (sym (left xs i (omega arith))) (subst (λ (o : Open). (get_or xs i d).at ≢ o.at) (sym (ap (λ n. get_or (xs ++ x ∷ []) n d) here ∙ last xs)) (new i d (omega arith)))
]
  where
    left : (ys : List Open) (k : ℕ) → k < length ys → get_or (ys ++ x ∷ []) k d ≡ get_or ys k d
    left ys k inside' = get_or_append_left ys (x ∷ []) d k inside'

    last : (ys : List Open) → get_or (ys ++ x ∷ []) (length ys) d ≡ x
    last [] = refl
    last (y ∷ ys) = last ys

module _ (functions : Item → Name → Bool) (h : List Event) (pending : List Open) (at : ℕ) (event : Event) (next : IsNextEvent functions h pending at event)
    (alternating : WellFormedIsAlternating) (beginnings : BeginningsAreWellFormed) where
  opened : IsPending h pending
  opened = next.opened

  alternates_after : IsAlternating functions (with_event h event)
  alternates_after = (alternating functions (with_event h event)).0 next.well_formed

  alternates : IsAlternating functions h
  alternates = (alternating functions h).0 (subst (IsWellFormed functions) (begins h) (beginnings functions (with_event h event) (length h) next.well_formed))
    where
      begins : (xs : List Event) → take (length xs) (xs ++ event ∷ []) ≡ xs
      begins [] = refl
      begins (x ∷ xs) = ap (λ l. x ∷ l) (begins xs)

  -- an operation whose end the event isn't has crashed or not as before
  crashed_same : (k : ℕ) → (IsEnd (with_event h event) k (length h) event → (name : Name) → event.body ≡ Info name → ⊥) → IsCrashed h k ↔ IsCrashed (with_event h event) k
  crashed_same k other = (
    λ c. (c.0, c.1, end_kept h event k c.0 c.1 c.2, c.3, c.4),
    λ c. elim (end_cases h event k c.0 c.1 c.2) [
      | inl old ↦ (c.0, c.1, old, c.3, c.4)
      | inr new ↦ absurd (other (subst (λ x. IsEnd (with_event h event) k (length h) x) (sym new.1) (subst (λ n. IsEnd (with_event h event) k n c.1) new.0 c.2)) c.3 (ap (λ (x : Event). x.body) new.1 ∙ c.4))
    ],
  )

  -- an invocation: the new operation is open too
  pub pending_invoked : (call : Call) → event.body ≡ Invoke call → IsPending (with_event h event) (pending ++ (record { process = event.process; at = at; call = call; crashed = false }) ∷ [])
  pending_invoked call is = record {
    once = pairs_push pending new opened.once (λ k d inside. inside_before (get_or pending k d) (Contains-get_or pending k d inside));
    sound = λ o there. elim (Contains-push_cases pending new o there) [
      | inl old ↦ let s = opened.sound o old in (s.0, open_kept h event no_ok no_fail o.at o.process s.0 o.call s.1)
      | inr same ↦ subst (λ p. (key : Item) × IsOpen (with_event h event) p.at p.process key p.call) same (event.key, subst (λ k. IsOpen (with_event h event) k event.process event.key call) next.place (invoked h event call is))
    ];
    complete = λ k process key c open'. elim (cases_eq k (length h)) [
      | inl same ↦ (new, Contains-push pending new, sym next.place ∙ sym same)
      | inr other ↦
          let s = opened.complete k process key c (open_before h event k process key c other open') in
          (s.0, Contains-append_left pending (new ∷ []) s.0 s.1, s.2)
    ];
    crashed = λ o there. elim (Contains-push_cases pending new o there) [
      | inl old ↦ (λ t. (crashed_same o.at no_info).0 ((opened.crashed o old).0 t), λ c. (opened.crashed o old).1 ((crashed_same o.at no_info).1 c))
      | inr same ↦ subst (λ (p : Open). IsTrue p.crashed ↔ IsCrashed (with_event h event) p.at) same (
        (λ t. absurd (true≢false (sym t))),
        λ c.
            let inside = end_inside (with_event h event) at c.0 c.1 c.2 in
            let later : at < c.0 = c.2.later in
            let place = next.place in
            let many = length-append h (event ∷ []) in
            absurd (omega arith),
      )
    ];
  }
    where
      new : Open
      new = record { process = event.process; at = at; call = call; crashed = false }

      no_ok : (name : Name) (reply : Reply) → event.body ≡ Ok name reply → ⊥
      no_ok name reply e = differ (sym is ∙ e)
        where
          differ : Invoke call ≡ Ok name reply → ⊥
          differ e = cc

      no_fail : (name : Name) → event.body ≡ Fail name → ⊥
      no_fail name e = differ (sym is ∙ e)
        where
          differ : Invoke call ≡ Fail name → ⊥
          differ e = cc

      no_info : {k : ℕ} → IsEnd (with_event h event) k (length h) event → (name : Name) → event.body ≡ Info name → ⊥
      no_info ends name e = differ (sym is ∙ e)
        where
          differ : Invoke call ≡ Info name → ⊥
          differ e = cc

      inside_before : (o : Open) → Contains pending o → o.at ≢ at
      inside_before o there same =
          let s = opened.sound o there in
          let inside = slice_get_within h o.at _ s.1.begins in
          let place = next.place in
          omega arith

  -- a completion is no invocation
  not_there : (name : Name) → Completes event.body name → (p : ℕ) (key : Item) (c : Call) → IsOperation (with_event h event) (length h) p key c → ⊥
  not_there name is p key c op = by event.body is (ap (λ (x : Event). x.body) (one_event (with_event h event) (length h) _ _ (get_last h event) op))
    where
      by : (b : Body) → Completes b name → b ≡ Invoke c → ⊥
      by (Invoke d) never e = never
      by (Ok n r) here e = cc
      by (Fail n) here e = cc
      by (Info n) here e = cc

  module _ (name : Name) (is : Completes event.body name) where
    done : (k : ℕ) × (key : Item) × (call : Call) × IsOpen h k event.process key call × IsEnd (with_event h event) k (length h) event
    done = completes h event functions alternates_after name is

    -- an operation of the process that is open before its completion is the one that it ends
    ended : (o : Open) → Contains pending o → o.process ≡ event.process → IsEnd (with_event h event) o.at (length h) event
    ended o there same =
        let s = opened.sound o there in
        let one = one_open functions h alternates o.at done.0 event.process s.0 done.1 o.call done.2 (subst (λ p. IsOpen h o.at p s.0 o.call) same s.1) done.3 in
        subst (λ k. IsEnd (with_event h event) k (length h) event) (sym one) done.4

    before : (k p : ℕ) (key : Item) (c : Call) → IsOpen (with_event h event) k p key c → IsOpen h k p key c
    before k p key c o = open_before h event k p key c (λ same. not_there name is p key c (subst (λ n. IsOperation (with_event h event) n p key c) same o.begins)) o

    -- an ok or a fail: the operation is no longer open
    pub pending_returned : ((k p : ℕ) (key : Item) (c : Call) → IsEnd (with_event h event) k (length h) event → IsOpen (with_event h event) k p key c → ⊥) → ((other : Name) → event.body ≡ Info other → ⊥)
        → IsPending (with_event h event) (filter (λ o. not (nat_eq o.process event.process)) pending)
    pending_returned gone no_info = record {
      once = AllPairs-filter (λ o p. o.at ≢ p.at) others pending opened.once;
      sound = λ o there.
          let both = passed_by others pending o there in
          let s = opened.sound o both.0 in
          (s.0, open_other h event o.at o.process s.0 o.call (differs event.process o.process both.1) s.1);
      complete = λ k p key c open'.
          let old = before k p key c open' in
          let s = opened.complete k p key c old in (
            s.0,
            kept_by others pending s.0 (other_process event.process s.0.process (λ same.
                gone s.0.at p key c (ended s.0 s.1 same) (subst (λ n. IsOpen (with_event h event) n p key c) (sym s.2) open'))) s.1,
            s.2,
          );
      crashed = λ o there.
          let old = (passed_by others pending o there).0 in
          let same = crashed_same o.at (λ ends other e. no_info other e) in
          (λ t. same.0 ((opened.crashed o old).0 t), λ c. (opened.crashed o old).1 (same.1 c));
    }
      where
        others : Open → Bool
        others o = not (nat_eq o.process event.process)

    -- an info: it has crashed
    pub pending_crashed : event.body ≡ Info name → IsPending (with_event h event) (map (marked event.process) pending)
    pending_crashed info = record {
      once = λ i j d below inside.
          let many = length-map pending (marked event.process) in
          subst (λ (o : Open). o.at ≢ (get_or (map (marked event.process) pending) j d).at) (sym (at_map i d (omega arith)))
          (subst (λ (o : Open). (get_or pending i d).at ≢ o.at) (sym (at_map j d (omega arith))) (opened.once i j d below (omega arith)));
      sound = λ o there.
          let was = marked_was o there in
          let s = opened.sound was.0 was.1 in
          subst (λ (p : Open). (key : Item) × IsOpen (with_event h event) p.at p.process key p.call) (sym was.2) (s.0, open_kept h event no_ok no_fail was.0.at was.0.process s.0 was.0.call s.1);
      complete = λ k p key c open'.
          let s = opened.complete k p key c (before k p key c open') in
          (marked event.process s.0, marked_there s.0 s.1, s.2);
      crashed = λ o there.
          let was = marked_was o there in
          subst (λ (p : Open). IsTrue p.crashed ↔ IsCrashed (with_event h event) p.at) (sym was.2) (crashes was.0 was.1 (nat_eq was.0.process event.process) refl);
    }
      where
        no_ok : (n : Name) (reply : Reply) → event.body ≡ Ok n reply → ⊥
        no_ok n reply e = differ (sym info ∙ e)
          where
            differ : Info name ≡ Ok n reply → ⊥
            differ e = cc

        no_fail : (n : Name) → event.body ≡ Fail n → ⊥
        no_fail n e = differ (sym info ∙ e)
          where
            differ : Info name ≡ Fail n → ⊥
            differ e = cc

        at_map : (i : ℕ) (d : Open) → i < length pending → get_or (map (marked event.process) pending) i d ≡ marked event.process (get_or pending i d)
        at_map i d inside = get_or-map (marked event.process) pending i d d inside

        marked_was : (o : Open) → Contains (map (marked event.process) pending) o → (b : Open) × Contains pending b × (o ≡ marked event.process b)
        marked_was o there =
            let many = length-map pending (marked event.process) in
            let inside = there.1 in
            (get_or pending there.0 o, Contains-get_or pending there.0 o (omega arith), sym there.2 ∙ at_map there.0 o (omega arith))

        marked_there : (o : Open) → Contains pending o → Contains (map (marked event.process) pending) (marked event.process o)
        marked_there o there =
            let many = length-map pending (marked event.process) in
            let inside = there.1 in
            (there.0, omega arith, get_or-map (marked event.process) pending there.0 o (marked event.process o) inside ∙ ap (marked event.process) there.2)

        crashes : (o : Open) → Contains pending o → (b : Bool) → nat_eq o.process event.process ≡ b → IsTrue (o.crashed || nat_eq o.process event.process) ↔ IsCrashed (with_event h event) o.at
        crashes o there true e =
            let same = (Decides-nat_eq o.process event.process).0 e in
            (λ t. (length h, event, ended o there same, name, info), λ c. or_right o.crashed (nat_eq o.process event.process) e)
          where
            or_right : (a b : Bool) → b ≡ true → (a || b) ≡ true
            or_right true b f = refl
            or_right false b f = f
        crashes o there false e =
            let s = opened.sound o there in
            let same = crashed_same o.at (λ ends other f. true≢false (sym ((Decides-nat_eq o.process event.process).1 (of_it s.0 s.1 ends)) ∙ e)) in
            (λ t. same.0 ((opened.crashed o there).0 (or_left o.crashed (nat_eq o.process event.process) e t)), λ c. or_from o.crashed (nat_eq o.process event.process) ((opened.crashed o there).1 (same.1 c)))
          where
            or_left : (a b : Bool) → b ≡ false → (a || b) ≡ true → a ≡ true
            or_left true b f t = refl
            or_left false b f t = absurd (true≢false (sym t ∙ f))

            or_from : (a b : Bool) → a ≡ true → (a || b) ≡ true
            or_from true b t = refl
            or_from false b t = absurd (true≢false (sym t))

            of_it : (key : Item) → IsOpen h o.at o.process key o.call → IsEnd (with_event h event) o.at (length h) event → o.process ≡ event.process
            of_it key open' ends = one_caller (with_event h event) o.at o.process ends.process key ends.key o.call ends.call (operation_kept h event o.at o.process key o.call open'.begins) ends.begins ∙ sym ends.same

  pub pending_answered : (((n : Name) × (r : Reply) × (event.body ≡ Ok n r)) ⊎ ((n : Name) × (event.body ≡ Fail n))) → IsPending (with_event h event) (filter (λ o. not (nat_eq o.process event.process)) pending)
  pending_answered (inl ok) =
      pending_returned ok.0 (subst (λ b. Completes b ok.0) (sym ok.2) refl) (λ k p key c ends open'. open'.no_ok (length h) ok.1 (event, ends, ok.0, ok.2)) (λ other e. differ ok.0 other ok.1 (sym ok.2 ∙ e))
    where
      differ : (n m : Name) (r : Reply) → Ok n r ≡ Info m → ⊥
      differ n m r e = cc
  pending_answered (inr fail) =
      pending_returned fail.0 (subst (λ b. Completes b fail.0) (sym fail.1) refl) (λ k p key c ends open'. open'.no_fail (length h, event, ends, fail.0, fail.1)) (λ other e. differ fail.0 other (sym fail.1 ∙ e))
    where
      differ : (n m : Name) → Fail n ≡ Info m → ⊥
      differ n m e = cc
