-- The order that goes with a lock goes on with it, and is a legal one once its debts are paid.
use Rattle.std.proofs.Common.{◌≡◌, ◌≢◌, ℕ, Bool, true, false, not, List, [], ◌∷◌, ◌++◌, ◌⊎◌, AllPairs, Contains, Option, Some, None, length, set, slice_get, inl, inr, refl, sym, subst, ◌∙◌, arith}
use Rattle.std.specs.Bool.{if◌then◌else◌}
use Rattle.std.proofs.lemmas.List.Elements.{Contains-push_cases}
use Rattle.lin_lists.specs.lemmas.Elements.{nothing_in}
use Rattle.lin_events.specs.declared.items.Item.{Item}
use Rattle.lin_events.specs.declared.calls.Call.{Call}
use Rattle.lin_events.specs.declared.calls.Name.{Name}
use Rattle.lin_events.specs.declared.calls.Reply.TheVariants.{Done}
use Rattle.lin_events.specs.declared.events.Body.TheVariants.{Invoke, Ok, Fail, Info}
use Rattle.lin_events.specs.declared.events.Event.{Event}
use Rattle.lin_events.specs.Alternation.{IsAlternating}
use Rattle.lin_events.specs.Operations.{IsOpen, IsOperation}
use Rattle.lin_events.specs.lemmas.OneMore.{alternates_before, one_call, one_open, open_kept, open_other}
use Rattle.lin_objects.specs.declared.kinds.Kind.TheVariants.{Mutex}
use Rattle.lin_objects.specs.declared.states.State.TheVariants.{Held}
use Rattle.lin_objects.specs.Steps.{Step, start}
use Rattle.lin_order.specs.Linearizable.{IsLegalOrderAs, IsLinearizableAs}
use Rattle.lin_order.specs.Configurations.{EndsIn}
use Rattle.lin_order.specs.ConfigurationLaws.{with_event}
use Rattle.lin_order.specs.lemmas.Ending.{start_lem}
use Rattle.lin_order.specs.lemmas.Opening.{open_beside, opens}
use Rattle.lin_order.specs.lemmas.Quiet.{info_quiet}
use Rattle.lin_locks.specs.declared.sides.Debt.{Debt}
use Rattle.lin_locks.specs.inner.Known.{Known, Part}
use Rattle.lin_locks.specs.inner.Debts.{lock_call}
use Rattle.lin_locks.specs.inner.Fillings.{AreFilled, IsKept, IsLegalFilled, IsPayable, PayInTurn, filled, in_turn, settled}
use Rattle.lin_locks.specs.inner.Turns.{IsRight}
use Rattle.lin_locks.specs.inner.Sides.{AreEarly, AreSides, IsGone, IsOwingAt, IsPaying, IsSide, IsStanding}
use Rattle.lin_locks.proofs.Filled.{settled_filled, settled_other}
use Rattle.lin_locks.proofs.Filling.{kept_named, kept_on, kept_owed, kept_paid, legal_failed, legal_informed, legal_invoked, legal_owes, legal_paid, legal_stands, ok_now}
use Rattle.lin_locks.proofs.Lists.{from_removed, there_in}
use Rattle.lin_locks.proofs.Payable.{other_left, payment_in_turn, turn_is, turn_joined, turn_leaves, turn_owed, turn_paid, turn_stands}
use Rattle.lin_locks.proofs.Placing.{other_call}

-- the same told of the other call first
kept_round : (h : List Event) (order : List (Option ℕ)) (own other : List Debt) → IsKept h order own other → IsKept h order other own
kept_round h order own other is = record {
  own_places = is.other_places;
  other_places = is.own_places;
  own_once = is.other_once;
  other_once = is.own_once;
  apart = λ c d in_c in_d same. is.apart d c in_d in_c (sym same);
  each = λ k there. elim (is.each k there) [ inl mine ↦ inr mine | inr theirs ↦ inl theirs ];
  named = is.named;
}

pub filled_round : (h : List Event) (one : Bool) (order : List (Option ℕ)) (own other : Part) (lock : Bool) → AreFilled h one order own other lock → AreFilled h (not one) order other own lock
filled_round h true order own other lock is =
    record { kept = kept_round h order own.debts other.debts is.kept; legal = λ pays first second. is.legal pays second first; own_payable = is.other_payable; other_payable = is.own_payable }
filled_round h false order own other lock is =
    record { kept = kept_round h order own.debts other.debts is.kept; legal = λ pays first second. is.legal pays second first; own_payable = is.other_payable; other_payable = is.own_payable }

-- before any event
pub filled_begins : (own other : Part) → own.opens ≡ [] → own.debts ≡ [] → other.opens ≡ [] → other.debts ≡ [] → (order : List (Option ℕ)) → order ≡ [] → AreFilled [] true order own other false
filled_begins own other own_opens own_debts other_opens other_debts order empty = record {
  kept = record {
    own_places = λ d there. absurd (nothing_in d (subst (λ l. Contains l d) own_debts there));
    other_places = λ d there. absurd (nothing_in d (subst (λ l. Contains l d) other_debts there));
    own_once = subst (AllPairs (λ c d. c.slot ≢ d.slot)) (sym own_debts) (λ i j d before within. absurd (omega (arith, within)));
    other_once = subst (AllPairs (λ c d. c.slot ≢ d.slot)) (sym other_debts) (λ i j d before within. absurd (omega (arith, within)));
    apart = λ c d in_c in_d. absurd (nothing_in c (subst (λ l. Contains l c) own_debts in_c));
    each = λ k there. absurd (let never = subst (λ l. slice_get l k ≡ Some None) empty there in cc);
    named = λ k at there. absurd (let never = subst (λ l. slice_get l k ≡ Some (Some at)) empty there in cc);
  };
  legal = λ pays first second. ([], subst (λ l. EndsIn (start Mutex) (Step Mutex) [] (filled pays 0 l) (Held false, [])) (sym empty) (start_lem (start Mutex) (Step Mutex)).0);
  own_payable = payable_begins own true own_opens own_debts;
  other_payable = payable_begins other false other_opens other_debts;
}
  where
    payable_begins : (side : Part) (b : Bool) → side.opens ≡ [] → side.debts ≡ [] → IsPayable [] (lock_call b) side
    payable_begins side b opens_none debts_none = record {
      only = λ at there. absurd (nothing_in at (subst (λ l. Contains l at) opens_none there));
      pays = λ k debt there. absurd (let never = subst (λ l. slice_get l k ≡ Some debt) debts_none there in cc);
    }

-- what is known holds a legal order, once its debts are paid
pub filled_is_legal : (h : List Event) (order : List (Option ℕ)) (own other : Part) (lock : Bool) → AreSides h true own other lock → AreFilled h true order own other lock
    → IsLegalOrderAs Mutex h (filled (λ n. 0) 0 (settled other.debts other.opens (settled own.debts own.opens order)))
filled_is_legal h order own other lock sides is =
    let later = in_turn other.debts other.opens (λ n. 0) in
    let pays = in_turn own.debts own.opens (in_turn other.debts other.opens (λ n. 0)) in
    let ends = is.legal pays
    (payment_in_turn h (lock_call true) own sides.own_side.rising is.own_payable pays (λ k debt at in_debts in_opens. turn_is own.debts own.opens later is.kept.own_once k debt at in_debts in_opens))
    (payment_in_turn h (lock_call false) other sides.other_side.rising is.other_payable pays (λ k debt at in_debts in_opens.
    turn_leaves own.debts own.opens later debt.slot (λ d there. is.kept.apart d debt there (there_in other.debts k debt in_debts))
    ∙ turn_is other.debts other.opens (λ n. 0) is.kept.other_once k debt at in_debts in_opens)) in
    subst (IsLegalOrderAs Mutex h)
    (settled_filled own.debts own.opens later order is.kept.own_places is.kept.own_once
    ∙ settled_filled other.debts other.opens (λ n. 0) (settled own.debts own.opens order)
    (λ d there. settled_other own.debts own.opens order d.slot (λ e in_own. is.kept.apart e d in_own there) ∙ is.kept.other_places d there) is.kept.other_once)
    (record { order_of = ends.1.order_of; legal = (Held lock, ends.1.runs) })

pub right_is_linearizable : (known : Known) (h : List Event) → IsRight known h → IsLinearizableAs Mutex h
right_is_linearizable known h is =
    (filled (λ n. 0) 0 (settled known.releases.debts known.releases.opens (settled known.acquires.debts known.acquires.opens known.order)), filled_is_legal h known.order known.acquires known.releases known.held is.sides.sides is.sides.order)

-- after an invocation
module _ (functions : Item → Name → Bool) (h : List Event) (event : Event) (call : Call) (is : event.body ≡ Invoke call) (alternates : IsAlternating functions (with_event h event)) where
  payable_beside : (other : Call) (side : Part) → IsPayable h other side → IsPayable (with_event h event) other side
  payable_beside other side was = record {
    only = λ at there. let o = was.only at there in (o.0, o.1, open_beside h event call is at o.0 o.1 other o.2);
    pays = was.pays;
  }

  pub filled_joined : (one : Bool) (order : List (Option ℕ)) (own now other : Part) (lock : Bool) → call ≡ lock_call one → now.opens ≡ own.opens ++ length h ∷ [] → now.debts ≡ own.debts
      → AreSides h one own other lock → AreFilled h one order own other lock → AreFilled (with_event h event) one order now other lock
  filled_joined one order own now other lock same joined debts sides was = record {
    kept = subst (λ l. IsKept (with_event h event) order l other.debts) (sym debts) (kept_on h event order own.debts other.debts was.kept);
    legal = subst (λ l. IsLegalFilled (with_event h event) one order l other.debts lock) (sym debts)
        (legal_invoked functions h event call is alternates one order own.debts other.debts lock sides.own_side.past sides.other_side.past was.legal);
    own_payable = record {
      only = λ at there. elim (Contains-push_cases own.opens (length h) at (subst (λ l. Contains l at) joined there)) [
        | inl old ↦ (let o = was.own_payable.only at old in (o.0, o.1, open_beside h event call is at o.0 o.1 (lock_call one) o.2))
        | inr new ↦ (event.process, event.key, subst (λ n. IsOpen (with_event h event) n event.process event.key (lock_call one)) new (subst (IsOpen (with_event h event) (length h) event.process event.key) same (opens h event call is)))
      ];
      pays = subst (λ l. PayInTurn l now.debts) (sym joined) (subst (PayInTurn (own.opens ++ length h ∷ [])) (sym debts) (turn_joined own.opens (length h) own.debts was.own_payable.pays));
    };
    other_payable = payable_beside (lock_call (not one)) other was.other_payable;
  }

  pub filled_beside : (order : List (Option ℕ)) (own other : Part) (lock : Bool) → AreSides h true own other lock → AreFilled h true order own other lock → AreFilled (with_event h event) true order own other lock
  filled_beside order own other lock sides was = record {
    kept = kept_on h event order own.debts other.debts was.kept;
    legal = legal_invoked functions h event call is alternates true order own.debts other.debts lock sides.own_side.past sides.other_side.past was.legal;
    own_payable = payable_beside (lock_call true) own was.own_payable;
    other_payable = payable_beside (lock_call false) other was.other_payable;
  }

module _ (functions : Item → Name → Bool) (h : List Event) (event : Event) (name : Name) (alternates : IsAlternating functions (with_event h event)) where
  -- after an info
  pub filled_informed : event.body ≡ Info name → (order : List (Option ℕ)) (own other : Part) (lock : Bool) → AreFilled h true order own other lock → AreFilled (with_event h event) true order own other lock
  filled_informed is order own other lock was = record {
    kept = kept_on h event order own.debts other.debts was.kept;
    legal = legal_informed functions h event name alternates is true order own.debts other.debts lock was.legal;
    own_payable = still (lock_call true) own was.own_payable;
    other_payable = still (lock_call false) other was.other_payable;
  }
    where
      still : (call : Call) (side : Part) → IsPayable h call side → IsPayable (with_event h event) call side
      still call side it = record {
        only = λ at there. let o = it.only at there in (o.0, o.1, open_kept h event (info_quiet event.body name is).0 (info_quiet event.body name is).1 at o.0 o.1 call o.2);
        pays = it.pays;
      }

  -- after the end of an operation, the others are still open
  module _ (i : ℕ) (key : Item) (ended : Call) (is_open : IsOpen h i event.process key ended) where
    still_open : (at process : ℕ) (k : Item) (call : Call) → IsOpen h at process k call → at ≢ i → IsOpen (with_event h event) at process k call
    still_open at process k call opened differ = open_other h event at process k call
        (λ same. differ (one_open functions h (alternates_before h event functions alternates) at i event.process k key call ended (subst (λ p. IsOpen h at p k call) same opened) is_open)) opened

    only_beside : (call : Call) (side : Part) → (ended ≡ call → ⊥) → IsPayable h call side → (at : ℕ) → Contains side.opens at → (process : ℕ) × (k : Item) × IsOpen (with_event h event) at process k call
    only_beside call side other it at there =
        let o = it.only at there in
        (o.0, o.1, still_open at o.0 o.1 call o.2 (λ same. other (one_call h i event.process o.0 key o.1 ended call is_open.begins (subst (λ n. IsOperation h n o.0 o.1 call) same o.2.begins))))

    only_left : (call : Call) (side now : Part) → ended ≡ call → IsSide h call side → IsGone i side.opens now.opens → IsPayable h call side → (at : ℕ) → Contains now.opens at → (process : ℕ) × (k : Item) × IsOpen (with_event h event) at process k call
    only_left call side now same is_side gone it at there =
        let g = gone is_side.rising (is_side.listed i event.process key (subst (IsOpen h i event.process key) same is_open)) in
        let left = subst (λ l. Contains l at) g.2 there in
        let o = it.only at (from_removed side.opens g.0 at left) in
        (o.0, o.1, still_open at o.0 o.1 call o.2 (other_left side.opens is_side.rising g.0 i g.1 at left))

    -- those that are left can pay
    pays_left : (call : Call) (side now : Part) → ended ≡ call → IsSide h call side → IsGone i side.opens now.opens → AreEarly i side.debts → now.debts ≡ side.debts → IsPayable h call side → PayInTurn now.opens now.debts
    pays_left call side now same is_side gone early debts it =
        let g = gone is_side.rising (is_side.listed i event.process key (subst (IsOpen h i event.process key) same is_open)) in
        subst (PayInTurn now.opens) (sym debts) (subst (λ l. PayInTurn l side.debts) (sym g.2) (turn_stands side.opens is_side.rising g.0 i g.1 side.debts (early is_side.ordered) it.pays))

  -- after a fail of one of a lock's operations
  pub filled_failed : event.body ≡ Fail name → (i : ℕ) (key : Item) (one : Bool) → IsOpen h i event.process key (lock_call one) → (order : List (Option ℕ)) (own now other : Part) (lock : Bool) → IsGone i own.opens now.opens
      → now.debts ≡ own.debts → AreEarly i now.debts ⊎ PayInTurn now.opens now.debts → AreSides h one own other lock → AreFilled h one order own other lock → AreFilled (with_event h event) one order now other lock
  filled_failed is i key one is_open order own now other lock gone debts payable sides was = record {
    kept = subst (λ l. IsKept (with_event h event) order l other.debts) (sym debts) (kept_on h event order own.debts other.debts was.kept);
    legal = subst (λ l. IsLegalFilled (with_event h event) one order l other.debts lock) (sym debts)
        (legal_failed functions h event name alternates is i key (lock_call one) is_open one order own.debts other.debts lock was.kept was.legal);
    own_payable = record {
      only = only_left i key (lock_call one) is_open (lock_call one) own now refl sides.own_side gone was.own_payable;
      pays = elim payable [
        | inl early ↦ pays_left i key (lock_call one) is_open (lock_call one) own now refl sides.own_side gone (subst (AreEarly i) debts early) debts was.own_payable
        | inr pays ↦ pays
      ];
    };
    other_payable = record { only = only_beside i key (lock_call one) is_open (lock_call (not one)) other (other_call one) was.other_payable; pays = was.other_payable.pays };
  }

  -- or of another one
  pub filled_stays : event.body ≡ Fail name → (i : ℕ) (key : Item) (call : Call) → IsOpen h i event.process key call → (call ≡ lock_call true → ⊥) → (call ≡ lock_call false → ⊥) → (order : List (Option ℕ)) (own other : Part) (lock : Bool)
      → AreFilled h true order own other lock → AreFilled (with_event h event) true order own other lock
  filled_stays is i key call is_open differ differs order own other lock was = record {
    kept = kept_on h event order own.debts other.debts was.kept;
    legal = legal_failed functions h event name alternates is i key call is_open true order own.debts other.debts lock was.kept was.legal;
    own_payable = record { only = only_beside i key call is_open (lock_call true) own differ was.own_payable; pays = was.own_payable.pays };
    other_payable = record { only = only_beside i key call is_open (lock_call false) other differs was.other_payable; pays = was.other_payable.pays };
  }

  -- after an ok of one of a lock's operations
  module _ (is : event.body ≡ Ok name Done) (i : ℕ) (key : Item) (one : Bool) (is_open : IsOpen h i event.process key (lock_call one)) (order : List (Option ℕ)) where
    pub filled_paid_on : (own now other : Part) (lock : Bool) (paying : IsPaying i own now) → AreSides h one own other lock → AreFilled h one order own other lock → AreFilled (with_event h event) one (set order paying.debt.slot (Some i)) now other lock
    filled_paid_on own now other lock paying sides was =
        let paid = paying.paid in
        let g = paying.gone sides.own_side.rising (sides.own_side.listed i event.process key is_open) in
        record {
          kept = kept_paid (with_event h event) order own.debts other.debts (kept_on h event order own.debts other.debts was.kept) paying.debt paid.before paid.behind now.debts paid.was paid.is i (length h) Done
              (ok_now functions h event name alternates is i key one is_open);
          legal = legal_paid functions h event name alternates is i key one is_open order own.debts other.debts was.kept paying.debt now.debts lock paid was.legal;
          own_payable = record {
            only = only_left i key (lock_call one) is_open (lock_call one) own now refl sides.own_side paying.gone was.own_payable;
            pays = subst (λ l. PayInTurn l now.debts) (sym g.2) (turn_paid own.opens sides.own_side.rising g.0 i g.1 own.debts paying.debt now.debts sides.own_side.ordered paid was.own_payable.pays);
          };
          other_payable = record { only = only_beside i key (lock_call one) is_open (lock_call (not one)) other (other_call one) was.other_payable; pays = was.other_payable.pays };
        }

    pub filled_stands : (own now other : Part) (lock : Bool) → lock ≡ not one → IsStanding i own now → AreSides h one own other lock → AreFilled h one order own other lock → AreFilled (with_event h event) one (order ++ Some i ∷ []) now other one
    filled_stands own now other lock fits standing sides was = record {
      kept = subst (λ l. IsKept (with_event h event) (order ++ Some i ∷ []) l other.debts) (sym standing.debts)
          (kept_named (with_event h event) order own.debts other.debts (kept_on h event order own.debts other.debts was.kept) i (length h) Done (ok_now functions h event name alternates is i key one is_open));
      legal = subst (λ l. IsLegalFilled (with_event h event) one (order ++ Some i ∷ []) l other.debts one) (sym standing.debts)
          (legal_stands functions h event name alternates is i key one is_open order own.debts other.debts was.kept lock fits was.legal);
      own_payable = record {
        only = only_left i key (lock_call one) is_open (lock_call one) own now refl sides.own_side standing.gone was.own_payable;
        pays = pays_left i key (lock_call one) is_open (lock_call one) own now refl sides.own_side standing.gone standing.early standing.debts was.own_payable;
      };
      other_payable = record { only = only_beside i key (lock_call one) is_open (lock_call (not one)) other (other_call one) was.other_payable; pays = was.other_payable.pays };
    }

    pub filled_owes : (own now other later : Part) (lock : Bool) → lock ≡ one → IsStanding i own now → IsOwingAt (length h) (length order) other later → AreSides h one own other lock → AreFilled h one order own other lock
        → AreFilled (with_event h event) one ((order ++ None ∷ []) ++ Some i ∷ []) now later one
    filled_owes own now other later lock fits standing at sides was =
        let owing = at.owing in
        let debt = owing.debt in
        record {
          kept = subst (λ l. IsKept (with_event h event) ((order ++ None ∷ []) ++ Some i ∷ []) l later.debts) (sym standing.debts) (subst (IsKept (with_event h event) ((order ++ None ∷ []) ++ Some i ∷ []) own.debts) (sym owing.debts)
              (kept_named (with_event h event) (order ++ None ∷ []) own.debts (other.debts ++ debt ∷ [])
              (kept_owed (with_event h event) order own.debts other.debts (kept_on h event order own.debts other.debts was.kept) debt at.slot) i (length h) Done (ok_now functions h event name alternates is i key one is_open)));
          legal = subst (λ l. IsLegalFilled (with_event h event) one ((order ++ None ∷ []) ++ Some i ∷ []) l later.debts one) (sym standing.debts)
              (subst (λ l. IsLegalFilled (with_event h event) one ((order ++ None ∷ []) ++ Some i ∷ []) own.debts l one) (sym owing.debts)
              (legal_owes functions h event name alternates is i key one is_open order own.debts other.debts was.kept debt at.slot lock fits was.legal));
          own_payable = record {
            only = only_left i key (lock_call one) is_open (lock_call one) own now refl sides.own_side standing.gone was.own_payable;
            pays = pays_left i key (lock_call one) is_open (lock_call one) own now refl sides.own_side standing.gone standing.early standing.debts was.own_payable;
          };
          other_payable = record {
            only = λ n there. only_beside i key (lock_call one) is_open (lock_call (not one)) other (other_call one) was.other_payable n (subst (λ l. Contains l n) owing.open_same there);
            pays = subst (λ l. PayInTurn l later.debts) (sym owing.open_same) (subst (PayInTurn other.opens) (sym owing.debts)
                (turn_owed other.opens other.debts debt at.enough (λ n there. let inside = sides.other_side.within n there in let time = owing.time in omega (arith, inside, time)) was.other_payable.pays));
          };
        }

    -- where it stands last, whether the lock allows it or one of the other call is owed
    pub filled_turned : (own now other later : Part) (lock fits : Bool) (next : List (Option ℕ)) (end : ℕ) → end ≡ length h → lock ≡ (if fits then not one else one)
        → (fits ≡ true → IsStanding i own now × (later ≡ other) × (next ≡ order ++ Some i ∷ [])) → (fits ≡ false → IsStanding i own now × IsOwingAt end (length order) other later × (next ≡ (order ++ None ∷ []) ++ Some i ∷ []))
        → AreSides h one own other lock → AreFilled h one order own other lock → AreFilled (with_event h event) one next now later one
    filled_turned own now other later lock true next end at allows stands owes sides was =
        let kept = stands refl in
        subst (λ s. AreFilled (with_event h event) one next now s one) (sym kept.1) (subst (λ l. AreFilled (with_event h event) one l now other one) (sym kept.2) (filled_stands own now other lock allows kept.0 sides was))
    filled_turned own now other later lock false next end at allows stands owes sides was =
        let kept = owes refl in
        subst (λ l. AreFilled (with_event h event) one l now later one) (sym kept.2) (filled_owes own now other later lock allows kept.0 (subst (λ n. IsOwingAt n (length order) other later) at kept.1) sides was)
