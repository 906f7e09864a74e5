use Rattle.lin_certificates.proofs.Deciding.{both, made}
use Rattle.lin_certificates.proofs.sets.is_lost.Goals as goal

pub returns : goal.returns
returns c =
    made _ (both _ _ (both _ _ c.is_among-has.ensures c.is_among-lacks.ensures) c.comes_before-before.ensures) (λ is. (is.0.0, is.0.1, is.1)) (λ is. ((is.0, is.1), is.2))
