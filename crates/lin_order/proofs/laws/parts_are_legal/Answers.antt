use Rattle.lin_order.proofs.Parts.{parts_are_legal_lem}
use Rattle.lin_order.proofs.laws.parts_are_legal.Goals as goal

pub returns : goal.returns
returns c = parts_are_legal_lem
