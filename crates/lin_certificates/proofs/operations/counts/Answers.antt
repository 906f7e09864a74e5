use Rattle.lin_order.specs.lemmas.Lists.{no_since}
use Rattle.lin_certificates.proofs.operations.counts.Goals as goal

pub returns-in_default : goal.returns-in_default
returns-in_default c = no_since (λ is. c.in_default.ensures is.0 is.1)
