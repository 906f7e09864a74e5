-- One event more.
use Rattle.std.proofs.Common.{◌≡◌, ◌+◌, ◌<◌, ℕ, zero, suc, Bool, List, [], ◌∷◌, ◌++◌, Some, ap, ◌∙◌, subst, arith, slice_get, take, add-one}
use Rattle.std.proofs.lemmas.List.{length-take-le}
use Rattle.std.proofs.lemmas.Option.{slice_get_within}
use Rattle.lin_events.specs.declared.items.Item.{Item}
use Rattle.lin_events.specs.declared.events.Event.{Event}
use Rattle.lin_events.specs.declared.calls.Name.{Name}
use Rattle.lin_events.specs.Operations.{IsEvent}
use Rattle.lin_events.specs.WellFormed.{IsWellFormed}
use Rattle.lin_events.specs.WellFormedLaws.{BeginningsAreWellFormed}
use Rattle.lin_order.specs.ConfigurationLaws.{with_event}
use Rattle.lin_frontier.specs.declared.pending.Open.{Open}
use Rattle.lin_frontier.specs.Frontiers.{IsPending, IsNextEvent}

-- one event more of the events
pub take_next : {A : Type 0} (n : ℕ) (xs : List A) (x : A) → slice_get xs n ≡ Some x → take (suc n) xs ≡ take n xs ++ x ∷ []
take_next n [] x h = cc
take_next zero (y ∷ ys) x h = ap (λ z. z ∷ []) (some_same h)
  where
    some_same : Some y ≡ Some x → y ≡ x
    some_same e = cc
take_next (suc n) (y ∷ ys) x h = ap (λ l. y ∷ l) (take_next n ys x h)

pub next_event : BeginningsAreWellFormed → (functions : Item → Name → Bool) (h : List Event) (n : ℕ) (event : Event) (pending : List Open) → IsWellFormed functions h → IsEvent h n event → IsPending (take n h) pending
    → IsNextEvent functions (take n h) pending n event
next_event beginnings functions h n event pending well there opened = record {
  place = length-take-le n h (let inside = slice_get_within h n event there in omega arith);
  well_formed = subst (IsWellFormed functions) (take_next n h event there) (beginnings functions h (suc n) well);
  opened = opened;
}

pub event_taken : (h : List Event) (n : ℕ) (event : Event) → IsEvent h n event → take (n + 1) h ≡ with_event (take n h) event
event_taken h n event there = ap (λ m. take m h) (add-one n) ∙ take_next n h event there
