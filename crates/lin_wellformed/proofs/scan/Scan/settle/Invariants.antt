use Rattle.std.proofs.Common.{◌-◌, length}
use Rattle.lin_objects.specs.Kinds.{kind_of}
use Rattle.lin_wellformed.specs.Scans.{ready_count}
use Rattle.lin_wellformed.proofs.ScanLemmas.{Settling}
use Rattle.lin_wellformed.proofs.scan.Scan.settle.Given as goal

abbrev pub invariant-loop-self : goal.invariant-loop-self
invariant-loop-self l = Settling (kind_of l.kinds) l.events l.initial.self l.self l.initial.meter l.meter

abbrev pub decreases-loop-self : goal.decreases-loop-self
decreases-loop-self l = length l.events - ready_count l.self
