use Rattle.std.proofs.Common.{length}
use Rattle.lin_sets.specs.Points.{AreEffects}
use Rattle.lin_sets.proofs.effects.effects_of.Given as goal

abbrev pub invariant-loop-i : goal.invariant-loop-i
invariant-loop-i l = AreEffects l.adds l.reads l.points (length l.adds) l.i l.effects.items
