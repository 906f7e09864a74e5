use Rattle.std.proofs.Common.{◌≡◌, min, List}
use Rattle.lin_events.specs.declared.events.Event.{Event}
use Rattle.lin_sets.specs.Intervals.{AreIntervalsOf, reached_in}
use Rattle.lin_sets.proofs.intervals.Intervals.cut.Given as goal

abbrev pub invariant-loop-self : goal.invariant-loop-self
invariant-loop-self l = record {
  told : (h : List Event) → AreIntervalsOf l.initial.self h → AreIntervalsOf l.self h;
  reached : min l.place (reached_in l.self) ≡ min l.place (reached_in l.initial.self);
}

abbrev pub decreases-loop-self : goal.decreases-loop-self
decreases-loop-self l = reached_in l.self
