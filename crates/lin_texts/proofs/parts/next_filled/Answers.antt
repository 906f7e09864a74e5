use Rattle.std.proofs.Common.{arith}
use Rattle.lin_texts.proofs.PartsOfTexts.{first_filled}
use Rattle.lin_texts.proofs.parts.next_filled.Goals as goal

pub returns : goal.returns
returns c = first_filled c.args.division c.args.from c.end_of_separators-at.result c.part_end-end.result c.args.text.now (omega arith) (omega arith) (omega arith) (omega arith)
    c.end_of_separators-at.ensures.parts c.end_of_separators-at.ensures.part c.part_end-end.ensures.part c.part_end-end.ensures.stops
