use Rattle.std.proofs.Common.{ap, not}
use Rattle.lin_texts.proofs.items.is_one_line.Goals as goal

pub returns : goal.returns
returns c = ap not c.contains.ensures.value
