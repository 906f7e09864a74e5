-- What a cut leaves of the engines that decide their objects.
use Rattle.std.proofs.Common.{◌≡◌, ◌≤◌, ℕ, List, length, min, take, subst, arith}
use Rattle.lin_events.specs.declared.events.Event.{Event}
use Rattle.lin_sets.specs.declared.intervals.Intervals.{Intervals}
use Rattle.lin_sets.specs.Intervals.{AreAll, AreIntervalsOf, reached_in}
use Rattle.lin_engines.specs.lemmas.Beginnings.{longer}
use Rattle.lin_engines.specs.lemmas.Beginnings.{take_alike}

pub intervals_cut : (old new : Intervals) (h edited : List Event) (place : ℕ) → (AreIntervalsOf old h → AreIntervalsOf new h) → reached_in new ≡ min place (reached_in old) → take place h ≡ take place edited
    → (reached_in old ≤ length h) × AreIntervalsOf old h → (reached_in new ≤ length edited) × AreIntervalsOf new edited
intervals_cut old new h edited place kept reached same seen =
    let below : reached_in new ≤ place = omega (arith, reached) in
    (longer h edited place (reached_in new) below (omega (arith, reached, seen.0)) same, subst (AreAll new) (take_alike (reached_in new) place h edited below same) (kept seen.1))
