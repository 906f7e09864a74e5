use Rattle.lin_formats.proofs.ValuePairs.{are_two}
use Rattle.lin_formats.proofs.elements.are_two.Goals as goal

pub returns : goal.returns
returns c = are_two c.args.items.now
