use Rattle.std.proofs.Common.{Contains, vec_len}
use Rattle.lin_configurations.specs.lemmas.Visiting.{IsSifting}
use Rattle.lin_compressed_frontier.proofs.asking.state_with.Given as goal

abbrev pub invariant-loop-state : goal.invariant-loop-state
invariant-loop-state g l = IsSifting (Contains l.fn.steps.items) l.reply l.steps.items

abbrev pub decreases-loop-state : goal.decreases-loop-state
decreases-loop-state g l = vec_len l.steps
