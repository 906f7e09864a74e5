use Rattle.lin_objects.proofs.Taken.{AreTaken}
use Rattle.lin_objects.proofs.taking.taken_out.Given as goal

abbrev pub invariant-loop-at : goal.invariant-loop-at
invariant-loop-at l = AreTaken l.bag l.at l.out.items
