-- Counting the maps that are passed over: cited by the contracts of private functions alone.
use Rattle.std.specs.Prelude.{◌≡◌, ℕ, ◌+◌, ◌-◌, ◌^◌, ◌==◌, min, if◌then◌else◌, List, [], ◌∷◌, length, take, Option, Some, None, Result, Ok}
use Rattle.lin_history.specs.Counts.{Passed}
use Rattle.lin_history.specs.PassedMaps.{PassesOver, ArePassedOver}
use Rattle.lin_history.specs.declared.follow.FollowFault.{FollowFault}
use Rattle.lin_history.specs.declared.follow.Ready.{Ready}
use Rattle.lin_events.specs.declared.events.Event.{Event}

abbrev pub or_first : Option (List ℕ) → Option (List ℕ) → Option (List ℕ)
or_first None other = other
or_first (Some w) other = Some w

-- some more, for these keywords
abbrev pub passed_more : Passed → List (List ℕ) → Passed
passed_more p [] = p
passed_more p (w ∷ ws) = record { count = min (p.count + length (w ∷ ws)) (2 ^ 64 - 1); first = or_first p.first (Some (take 40 w)) }

-- those that another one counted
abbrev pub added : Passed → Passed → Passed
added p q = if q.count == 0 then p else record { count = min (p.count + q.count) (2 ^ 64 - 1); first = or_first p.first q.first }

-- the events that are ready, and what was passed over
pub record Gathered : Type 0 where
  pub items : List Event
  pub passed : Passed

abbrev pub gathered : Ready → Gathered
gathered r = record { items = r.events.items; passed = r.passed }

-- from the beginning up to a place the maps of a text that are passed over are counted, and if it is whole so are all
abbrev pub IsOver : List ℕ → Result (Unit {0}) FollowFault → Passed → Passed → ℕ → Type 0
IsOver text outcome old new used = (ws : List (List ℕ)) × PassesOver text ws used × (new ≡ passed_more old ws) × (outcome ≡ Ok tt → ArePassedOver text ws)
