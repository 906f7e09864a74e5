use Rattle.lin_sets.specs.Points.{AreEffects}
use Rattle.lin_sets.proofs.effects.effects_of_adds.Given as goal

abbrev pub invariant-loop-at : goal.invariant-loop-at
invariant-loop-at l = AreEffects l.adds l.reads l.points l.at 0 l.effects.items
