use Rattle.lin_edn.proofs.Standing.{one_element}
use Rattle.lin_edn.proofs.elements_are_unique.Goals as goal

pub returns : goal.returns
returns c = λ n m p q r s t u v w a b e f. one_element a b e f
