use Rattle.std.proofs.Common.{◌≡◌, take}
use Rattle.lin_order.specs.Parts.{part}
use Rattle.lin_report.proofs.refuting.events_of.Given as goal

abbrev pub invariant-loop-at : goal.invariant-loop-at
invariant-loop-at l = l.events.items ≡ part l.key (take l.at l.session.present.history)
