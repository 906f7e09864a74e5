use Rattle.std.proofs.Common.{◌≡◌, drop}
use Rattle.lin_texts.specs.Parts.{filled_from}
use Rattle.lin_texts.proofs.parts.end_of_separators.Given as goal

abbrev pub invariant-loop-at : goal.invariant-loop-at
invariant-loop-at l = filled_from l.division l.from (drop l.from l.text) ≡ filled_from l.division l.at (drop l.at l.text)
