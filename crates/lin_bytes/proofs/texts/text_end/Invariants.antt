use Rattle.std.proofs.Common.{◌≡◌, drop, false}
use Rattle.lin_bytes.specs.TextEnds.{closing_end}
use Rattle.lin_bytes.proofs.texts.text_end.Given as goal

abbrev pub invariant-loop-at : goal.invariant-loop-at
invariant-loop-at l = closing_end l.escaped l.at (drop l.at l.text) ≡ closing_end false l.from (drop l.from l.text)
