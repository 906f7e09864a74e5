-- What an ok makes of a debtor that follows a legal order, move by move.
use Rattle.std.proofs.Common.{◌≡◌, ◌≢◌, ℕ, ◌<◌, ◌≤◌, suc, List, ◌∷◌, ◌++◌, Contains, AllPairs, ◌⊎◌, inl, inr, refl, sym, ap, subst, ◌∙◌, arith}
use Rattle.std.proofs.lemmas.Bool.{cases_eq}
use Rattle.std.proofs.lemmas.List.Elements.{Contains-append_right}
use Rattle.lin_events.specs.declared.items.Item.{Item}
use Rattle.lin_events.specs.declared.events.Event.{Event}
use Rattle.lin_events.specs.declared.calls.Reply.{Reply}
use Rattle.lin_events.specs.declared.calls.Reply.TheVariants.{Done, Value}
use Rattle.lin_events.specs.declared.calls.Val.TheVariants.{Nil, Item as Held}
use Rattle.lin_events.specs.Operations.{IsOk}
use Rattle.lin_order.specs.declared.placed.Placed.{Placed}
use Rattle.lin_order.specs.Orders.{IsOrder, Places}
use Rattle.lin_queues.specs.Debts.{Debtor, Takes, IsAhead, IsOkWithin, Follows, IsPut, IsTaken, IsPaid, GainsEarly, LosesEarly, IsEmptied}
use Rattle.lin_queues.proofs.DebtLists.{in_more, in_more_cases, pairs_less, pairs_other}
use Rattle.lin_queues.proofs.DebtsTaking.{one_element}
use Rattle.lin_queues.proofs.Events.{invoked_earlier}
use Rattle.lin_queues.proofs.Stepping.{one_answer, takes_as, taken_as, idle_done, idle_nil, follows_ok}

abbrev Apart : ℕ × ℕ → ℕ × ℕ → Type 0
Apart p q = p.0 ≢ q.0

pub done_no_nil : Done ≡ Value Nil → ⊥
done_no_nil e = cc

done_no_item : (item : Item) → Done ≡ Value (Held item) → ⊥
done_no_item item e = cc

nil_no_item : (item : Item) → Value Nil ≡ Value (Held item) → ⊥
nil_no_item item e = cc

module _ (whole : List Event) (order : List Placed) (is : IsOrder whole order) (n x : ℕ) (reply : Reply) (ok : IsOk whole x n reply) (d next : Debtor) (follows : Follows whole order n d) where
  -- lists that stay
  owed_on : next.debts ≡ d.debts → (f t : ℕ) → Contains d.debts (f, t) → Contains next.debts (f, t)
  owed_on same f t owed = subst (λ l. Contains l (f, t)) (sym same) owed

  owed_back : next.debts ≡ d.debts → (f t : ℕ) → Contains next.debts (f, t) → Contains d.debts (f, t)
  owed_back same f t owed = subst (λ l. Contains l (f, t)) same owed

  once_on : next.debts ≡ d.debts → AllPairs Apart next.debts
  once_on same = subst (AllPairs Apart) (sym same) follows.debts_once

  nothing_on : next.emptied ≡ d.emptied → ((f : ℕ) → Contains next.inside f → Contains d.inside f) → (y : ℕ) → y < n → Places order y (Value Nil)
      → (y < next.emptied) ⊎ ((f : ℕ) → Contains next.inside f → IsAhead order f y)
  nothing_on same from y below there = elim (follows.found_nothing y below there) [
    | inl less ↦ inl (subst (λ k. y < k) (sym same) less)
    | inr all ↦ inr (λ f inside. all f (from f inside))
  ]

  returned_on : next.emptied ≡ d.emptied → ((y : ℕ) → y ≡ x → Places order y (Value Nil) → y < d.emptied) → (y : ℕ) → (IsOkWithin whole n y ⊎ (y ≡ x)) → Places order y (Value Nil) → y < next.emptied
  returned_on same new y (inl within) there = subst (λ k. y < k) (sym same) (follows.returned_nothing y within there)
  returned_on same new y (inr here) there = subst (λ k. y < k) (sym same) (new y here there)

  -- an enqueue
  module _ (done : Places order x Done) where
    idle : (f : ℕ) → Takes order x f → ⊥
    idle = idle_done whole order is x done

    no_nil : (y : ℕ) → y ≡ x → Places order y (Value Nil) → y < d.emptied
    no_nil y here there = absurd (done_no_nil (one_answer whole order is x Done (Value Nil) done (subst (λ k. Places order k (Value Nil)) here there)))

    pub move_early : Contains d.early x → LosesEarly x d next → Follows whole order (suc n) next
    move_early was m = follows_ok whole order is n x reply ok d next follows
        (λ f inside. inl ((m.inside f).1 inside))
        (λ f inside. inl ((m.inside f).0 inside, idle f))
        (λ f t owed. inl (owed_on m.debts f t owed))
        (λ f t owed. (owed_back m.debts f t owed, idle f))
        (once_on m.debts)
        (λ placed. inr was)
        (λ f early other. (m.early f).1 (early, other))
        (λ f early. let from = (m.early f).0 early in (from.1, inl from.0))
        (λ f takes never. absurd (idle f takes))
        (nothing_on m.emptied (λ f inside. (m.inside f).0 inside))
        (returned_on m.emptied no_nil)

    pub move_put : (since : ℕ) → d.emptied ≤ since → (Contains d.early x → ⊥) → ((y : ℕ) → y < n → Places order y (Value Nil) → (y < since) ⊎ ((f : ℕ) → Contains next.inside f → IsAhead order f y))
        → IsPut x since d next → Follows whole order (suc n) next
    move_put since later late nothing m = follows_ok whole order is n x reply ok d next follows
        (λ f inside. inl ((m.inside f).1 (inl inside)))
        (λ f inside. elim ((m.inside f).0 inside) [
          | inl old ↦ inl (old, idle f)
          | inr new ↦ inr (new, done, late)
        ])
        (λ f t owed. inl (owed_on m.debts f t owed))
        (λ f t owed. (owed_back m.debts f t owed, idle f))
        (once_on m.debts)
        (λ placed. inl ((m.inside x).1 (inr refl)))
        (λ f early other. (m.early f).1 early)
        (λ f early. let from = (m.early f).0 early in ((λ same. late (subst (Contains d.early) same from)), inl from))
        (λ f takes never. absurd (idle f takes))
        (λ y below there. elim (nothing y below there) [
          | inl less ↦ inl (subst (λ k. y < k) (sym m.emptied) less)
          | inr all ↦ inr all
        ])
        returned
      where
        returned : (y : ℕ) → (IsOkWithin whole n y ⊎ (y ≡ x)) → Places order y (Value Nil) → y < next.emptied
        returned y (inl within) there = subst (λ k. y < k) (sym m.emptied) (omega (arith, follows.returned_nothing y within there, later))
        returned y (inr here) there = subst (λ k. y < k) (sym m.emptied) (omega (arith, no_nil y here there, later))

  -- a dequeue that takes an element
  module _ (e : ℕ) (takes : Takes order x e) where
    only : (f : ℕ) → Takes order x f → f ≡ e
    only f t = one_element whole order is x f e t takes

    no_done : Places order x Done → ⊥
    no_done there = done_no_item takes.item (one_answer whole order is x Done (Value (Held takes.item)) there (takes_as whole order is x e takes))

    has_item : (y : ℕ) → y ≡ x → Places order y (Value Nil) → y < d.emptied
    has_item y here there = absurd (nil_no_item takes.item
        (one_answer whole order is x (Value Nil) (Value (Held takes.item)) (subst (λ k. Places order k (Value Nil)) here there) (takes_as whole order is x e takes)))

    -- early elements are enqueues
    early_other : (f : ℕ) → Contains d.early f → f ≡ x → ⊥
    early_other f early same =
        let was = (follows.early_taken f early).1 in
        no_done (subst (λ k. Places order k Done) same (taken_as whole order is was.0 f was.2))

    pub move_paid : (t : ℕ) (before behind : List (ℕ × ℕ)) → IsPaid e t before behind d next → Follows whole order (suc n) next
    move_paid t before behind m = follows_ok whole order is n x reply ok d next follows
        (λ f inside. inl ((m.inside f).1 inside))
        (λ f inside. inl ((m.inside f).0 inside, λ t'. follows.inside_free e t (subst (Contains d.inside) (only f t') ((m.inside f).0 inside)) there))
        (λ f s owed. elim (in_more_cases before behind (e, t) (f, s) (subst (λ l. Contains l (f, s)) m.was owed)) [
          | inl stays ↦ inl (subst (λ l. Contains l (f, s)) (sym m.debts) stays)
          | inr paid ↦ inr (subst (Takes order x) (ap (λ (p : ℕ × ℕ). p.0) paid) takes)
        ])
        (λ f s owed.
        let rest = subst (λ l. Contains l (f, s)) m.debts owed in (
          subst (λ l. Contains l (f, s)) (sym m.was) (in_more before behind (e, t) (f, s) rest),
          λ t'. pairs_other Apart (λ p q differ same. differ (sym same)) before behind (e, t) once (f, s) rest (sym (only f t')),
        ))
        (subst (AllPairs Apart) (sym m.debts) (pairs_less Apart before behind (e, t) once))
        (λ placed. absurd (no_done placed))
        (λ f early other. (m.early f).1 early)
        (λ f early. let from = (m.early f).0 early in (early_other f from, inl from))
        (λ f t' never. absurd (never (subst (IsOkWithin whole n) (sym (only f t')) (follows.debts_ok e t there))))
        (nothing_on m.emptied (λ f inside. (m.inside f).0 inside))
        (returned_on m.emptied has_item)
      where
        there : Contains d.debts (e, t)
        there = subst (λ l. Contains l (e, t)) (sym m.was) (Contains-append_right before ((e, t) ∷ behind) (e, t) (0, omega arith, refl))

        once : AllPairs Apart (before ++ (e, t) ∷ behind)
        once = subst (AllPairs Apart) m.was follows.debts_once

    pub move_taken : Contains d.inside e → IsTaken e d next → Follows whole order (suc n) next
    move_taken there m = follows_ok whole order is n x reply ok d next follows
        (λ f inside. elim (cases_eq f e) [
          | inl same ↦ inr (subst (Takes order x) (sym same) takes)
          | inr other ↦ inl ((m.inside f).1 (inside, other))
        ])
        (λ f inside. let from = (m.inside f).0 inside in inl (from.0, λ t. from.1 (only f t)))
        (λ f s owed. inl (owed_on m.debts f s owed))
        (λ f s owed. let was = owed_back m.debts f s owed in (was, λ t. follows.inside_free e s there (subst (λ k. Contains d.debts (k, s)) (only f t) was)))
        (once_on m.debts)
        (λ placed. absurd (no_done placed))
        (λ f early other. (m.early f).1 early)
        (λ f early. let from = (m.early f).0 early in (early_other f from, inl from))
        (λ f t never. absurd (never (subst (IsOkWithin whole n) (sym (only f t)) (follows.inside_ok e there).0)))
        (nothing_on m.emptied (λ f inside. ((m.inside f).0 inside).0))
        (returned_on m.emptied has_item)

    pub move_taken_early : (IsOkWithin whole n e → ⊥) → GainsEarly e d next → Follows whole order (suc n) next
    move_taken_early not_ok m = follows_ok whole order is n x reply ok d next follows
        (λ f inside. inl ((m.inside f).1 inside))
        (λ f inside. let from = (m.inside f).0 inside in inl (from, λ t. not_ok (subst (IsOkWithin whole n) (only f t) (follows.inside_ok f from).0)))
        (λ f s owed. inl (owed_on m.debts f s owed))
        (λ f s owed. let was = owed_back m.debts f s owed in (was, λ t. not_ok (subst (IsOkWithin whole n) (only f t) (follows.debts_ok f s was))))
        (once_on m.debts)
        (λ placed. absurd (no_done placed))
        (λ f early other. (m.early f).1 (inl early))
        (λ f early. elim ((m.early f).0 early) [
          | inl old ↦ (early_other f old, inl old)
          | inr new ↦ (
            (λ same. no_done (subst (λ k. Places order k Done) (sym new ∙ same) (taken_as whole order is x e takes))),
            inr (subst (Takes order x) (sym new) takes, λ within. not_ok (subst (IsOkWithin whole n) new within)),
          )
        ])
        (λ f t never. (m.early f).1 (inr (only f t)))
        (nothing_on m.emptied (λ f inside. (m.inside f).0 inside))
        (returned_on m.emptied has_item)

  -- a dequeue that found nothing
  module _ (none : Places order x (Value Nil)) where
    idle_none : (f : ℕ) → Takes order x f → ⊥
    idle_none = idle_nil whole order is x none

    no_put : Places order x Done → ⊥
    no_put there = done_no_nil (one_answer whole order is x Done (Value Nil) there none)

    early_not : (f : ℕ) → Contains d.early f → f ≡ x → ⊥
    early_not f early same =
        let was = (follows.early_taken f early).1 in
        no_put (subst (λ k. Places order k Done) same (taken_as whole order is was.0 f was.2))

    pub move_emptied : IsEmptied n d next → Follows whole order (suc n) next
    move_emptied m = follows_ok whole order is n x reply ok d next follows
        (λ f inside. inl ((m.inside f).1 inside))
        (λ f inside. inl ((m.inside f).0 inside, idle_none f))
        (λ f t owed. inl (owed_on m.debts f t owed))
        (λ f t owed. (owed_back m.debts f t owed, idle_none f))
        (once_on m.debts)
        (λ placed. absurd (no_put placed))
        (λ f early other. (m.early f).1 early)
        (λ f early. let from = (m.early f).0 early in (early_not f from, inl from))
        (λ f takes never. absurd (idle_none f takes))
        (λ y below there. inl (subst (λ k. y < k) (sym m.emptied) below))
        returned
      where
        returned : (y : ℕ) → (IsOkWithin whole n y ⊎ (y ≡ x)) → Places order y (Value Nil) → y < next.emptied
        returned y (inl within) there = subst (λ k. y < k) (sym m.emptied) (let later : y < within.0 = within.2.1.later in omega (arith, later, within.3))
        returned y (inr here) there = subst (λ k. y < k) (sym m.emptied) (subst (λ k. k < n) (sym here) (invoked_earlier whole n x reply ok))

-- and one that was invoked before the queue was last empty
module _ (whole : List Event) (order : List Placed) (is : IsOrder whole order) (n x : ℕ) (reply : Reply) (ok : IsOk whole x n reply) (d : Debtor) (follows : Follows whole order n d) (none : Places order x (Value Nil)) where
  pub move_stays : x < d.emptied → Follows whole order (suc n) d
  move_stays early = follows_ok whole order is n x reply ok d d follows
      (λ f inside. inl inside)
      (λ f inside. inl (inside, idle_nil whole order is x none f))
      (λ f t owed. inl owed)
      (λ f t owed. (owed, idle_nil whole order is x none f))
      follows.debts_once
      (λ placed. absurd (no_put whole order is n x reply ok d d follows none placed))
      (λ f was other. was)
      (λ f was. (early_not whole order is n x reply ok d d follows none f was, inl was))
      (λ f takes never. absurd (idle_nil whole order is x none f takes))
      follows.found_nothing
      (returned_on whole order is n x reply ok d d follows refl (λ y here there. subst (λ k. k < d.emptied) (sym here) early))
