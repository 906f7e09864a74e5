use Rattle.std.proofs.Common.{vec_len}
use Rattle.lin_objects.specs.Steps.{Step}
use Rattle.lin_order.specs.inner.Checking.{HoldsWith}
use Rattle.lin_order.proofs.Carrying.{IsTaken}
use Rattle.lin_order.proofs.refutations.holds_steps.Given as goal

abbrev pub invariant-loop-outcome : goal.invariant-loop-outcome
invariant-loop-outcome l = IsTaken (Step l.fn.kind l.state l.call) (HoldsWith l.members.keys l.placed l.process) l.outcomes.items

abbrev pub decreases-loop-outcome : goal.decreases-loop-outcome
decreases-loop-outcome l = vec_len l.outcomes
