use Rattle.lin_texts.proofs.PartsOfTexts.{IsOfPart}
use Rattle.lin_texts.proofs.parts.part_end.Given as goal

abbrev pub invariant-loop-at : goal.invariant-loop-at
invariant-loop-at l = IsOfPart l.division l.text l.from l.at l.standing
