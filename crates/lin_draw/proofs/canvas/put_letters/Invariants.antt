use Rattle.std.proofs.Common.{◌≡◌, ◌++◌, take}
use Rattle.std.specs.List.{flat_map}
use Rattle.lin_draw.specs.Letters.{letter_text}
use Rattle.lin_draw.proofs.canvas.put_letters.Given as goal

abbrev pub invariant-loop-letter : goal.invariant-loop-letter
invariant-loop-letter l = l.text.items ≡ l.initial.text.items ++ flat_map letter_text (take l.letter-index l.shown)
