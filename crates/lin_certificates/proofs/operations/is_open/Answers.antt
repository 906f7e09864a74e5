use Rattle.lin_order.specs.lemmas.Lists.{no_since}
use Rattle.lin_certificates.proofs.operations.is_open.Goals as goal

pub returns-in-Some : goal.returns-in-Some
returns-in-Some c = no_since (λ is. is.2 c.in-Some.field-0.0 c.in-Some.field-0.1.now c.in-Some.ensures)
