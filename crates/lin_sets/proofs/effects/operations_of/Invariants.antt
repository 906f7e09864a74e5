use Rattle.std.proofs.Common.{◌≡◌, map}
use Rattle.lin_sets.specs.declared.effects.Effect.{Effect}
use Rattle.lin_sets.proofs.effects.operations_of.Given as goal

abbrev pub invariant-loop-effect : goal.invariant-loop-effect
invariant-loop-effect l = l.order.items ≡ map (λ (e : Effect). e.placed) l.yielded
