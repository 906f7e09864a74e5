use Rattle.std.proofs.Common.{◌≢◌, AllPairs, take}
use Rattle.lin_configurations.specs.inner.Branches.{ArePicked, IsUntold}
use Rattle.lin_configurations.proofs.branches.one_of_each_call.Given as goal

abbrev pub invariant-loop-operation : goal.invariant-loop-operation
invariant-loop-operation g l = record {
  picked : ArePicked (IsUntold (g.O.SeqObject.shown l.object) (g.O.SeqObject.having l.object) l.state l.reads) (take l.operation-index l.operations) l.out.items;
  differ : AllPairs (λ o p. o.call ≢ p.call) l.out.items;
}
