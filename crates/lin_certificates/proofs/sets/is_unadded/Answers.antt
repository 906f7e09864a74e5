use Rattle.lin_certificates.proofs.Deciding.{both, made, neither}
use Rattle.lin_certificates.proofs.sets.is_unadded.Goals as goal

pub returns : goal.returns
returns c =
    made _ (both _ _ c.is_among-has.ensures (neither _ c.is_any-added.ensures)) (λ is. (is.0, λ at it. is.1 (at, it))) (λ is. (is.0, λ some. is.1 some.0 some.1))
