use Rattle.lin_certificates.proofs.Deciding.{both, made}
use Rattle.lin_certificates.proofs.registers.is_left_ahead.Goals as goal

pub returns : goal.returns
returns c =
    made _ (both _ _ (both _ _ (both _ _ c.is_left_once-once.ensures c.touches-one.ensures) c.touches-two.ensures) c.comes_before-before.ensures)
    (λ is. (is.0.0.0, is.0.0.1, is.0.1, is.1)) (λ is. (((is.0, is.1), is.2), is.3))
