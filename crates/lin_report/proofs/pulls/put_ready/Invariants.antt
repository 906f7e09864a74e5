use Rattle.std.proofs.Common.{List, length, ◌-◌}
use Rattle.lin_events.specs.declared.events.Event.{Event}
use Rattle.lin_formats.specs.Inputs.{limit}
use Rattle.lin_report.specs.Pulls.{Enters}
use Rattle.lin_report.proofs.pulls.put_ready.Given as goal

abbrev pub invariant-events : goal.invariant-events
invariant-events l = record {
  entered : List Event;
  so_far : Enters l.fn.session.present l.session.present l.fn.follow l.follow entered;
}

abbrev pub decreases-events : goal.decreases-events
decreases-events l = limit - length l.session.present.history
