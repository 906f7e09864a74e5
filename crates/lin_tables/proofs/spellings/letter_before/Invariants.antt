use Rattle.std.proofs.Common.{◌≡◌, ◌≤◌}
use Rattle.lin_tables.specs.Shortening.{letter_at}
use Rattle.lin_tables.proofs.spellings.letter_before.Given as goal

abbrev pub invariant-loop-at : goal.invariant-loop-at
invariant-loop-at l = (l.at ≤ l.initial.at) × (letter_at l.text l.at ≡ letter_at l.text l.initial.at)

abbrev pub decreases-loop-at : goal.decreases-loop-at
decreases-loop-at l = l.at
