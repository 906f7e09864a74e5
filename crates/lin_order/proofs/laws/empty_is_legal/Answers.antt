use Rattle.lin_order.specs.lemmas.Empty.{empty_is_legal_lem}
use Rattle.lin_order.proofs.laws.empty_is_legal.Goals as goal

pub returns : goal.returns
returns c = empty_is_legal_lem
