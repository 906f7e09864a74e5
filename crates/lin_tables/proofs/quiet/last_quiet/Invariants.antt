use Rattle.lin_tables.proofs.Passing.{LastBelow}
use Rattle.lin_tables.proofs.Quieting.{AreBusyUntil, IsQuietUpTo}
use Rattle.lin_tables.proofs.quiet.last_quiet.Given as goal

abbrev pub invariant-loop-at : goal.invariant-loop-at
invariant-loop-at l = record { busy : AreBusyUntil l.events l.at l.busy; quiet : LastBelow (IsQuietUpTo l.events l.call) l.at l.quiet }
