use Rattle.std.proofs.Common.{take}
use Rattle.lin_configurations.specs.inner.Branches.{ArePicked, IsFree}
use Rattle.lin_configurations.proofs.branches.free.Given as goal

abbrev pub invariant-loop-operation : goal.invariant-loop-operation
invariant-loop-operation g l = ArePicked (IsFree (g.O.SeqObject.total l.object) l.placed) (take l.operation-index l.pending) l.out.items
