-- The next event of well-formed ones.
use Rattle.std.proofs.Common.{◌≡◌, ◌<◌, ◌+◌, ℕ, List, take, length, sym, ap, subst, ◌∙◌, arith, add-one}
use Rattle.std.proofs.lemmas.List.{length-take-le}
use Rattle.std.proofs.lemmas.Option.{slice_get_within}
use Rattle.lin_events.specs.declared.events.Event.{Event}
use Rattle.lin_events.specs.WellFormed.{IsWellFormed}
use Rattle.lin_events.specs.lemmas.Alternating.{beginning_is_well_formed}
use Rattle.lin_lists.specs.lemmas.Lists.{take_next}
use Rattle.lin_order.specs.ConfigurationLaws.{with_event}
use Rattle.lin_locks.specs.declared.locks.Lock.{Lock}
use Rattle.lin_locks.specs.inner.Known.{Known, known_of}
use Rattle.lin_locks.specs.inner.Turns.{HasPlaces, IsRight}
use Rattle.lin_locks.specs.Locks.{IsLockOf, IsNextOf, reached_in}
use Rattle.lin_locks.proofs.Undoing.{present}

-- what is known is right of the events that were taken in
pub right_now : (lock : Lock) (h : List Event) → IsLockOf lock h → IsRight (known_of lock.standing) (take (reached_in lock) h)
right_now lock h told = subst (λ k. IsRight k (take (reached_in lock) h)) (present lock.changes.items (known_of lock.standing) (reached_in lock) (omega arith)) (told.right (reached_in lock) (omega arith))

-- what is owed has its places
pub places : (known : Known) (h : List Event) → IsRight known h → HasPlaces known
places known h right = (right.sides.order.kept.own_places, right.sides.order.kept.other_places)

module _ (old : Lock) (h : List Event) (event : Event) (next : IsNextOf old h event) where
  -- the beginning with the event
  pub with_next : take (reached_in old + 1) h ≡ with_event (take (reached_in old) h) event
  with_next = ap (λ n. take n h) (add-one (reached_in old)) ∙ take_next (reached_in old) h event next.stands

  pub inside_next : reached_in old < length h
  inside_next = slice_get_within h (reached_in old) event next.stands

  pub next_formed : IsWellFormed next.well_formed.0 (with_event (take (reached_in old) h) event)
  next_formed = subst (IsWellFormed next.well_formed.0) with_next (beginning_is_well_formed next.well_formed.0 h (reached_in old + 1) next.well_formed.1)

  pub at_next : (at : ℕ) → at ≡ reached_in old → at ≡ length (take (reached_in old) h)
  at_next at is = let inside = slice_get_within h (reached_in old) event next.stands in is ∙ sym (length-take-le (reached_in old) h (omega (arith, inside)))
