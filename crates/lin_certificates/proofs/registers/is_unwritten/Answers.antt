use Rattle.lin_certificates.proofs.Deciding.{both, made, neither}
use Rattle.lin_certificates.proofs.registers.is_unwritten.Goals as goal

pub returns : goal.returns
returns c =
    made _ (both _ _ c.is_among-needs.ensures (neither _ c.is_any-left.ensures)) (λ is. (is.0, λ other it. is.1 (other, it))) (λ is. (is.0, λ some. is.1 some.0 some.1))
