use Rattle.lin_certificates.proofs.Deciding.{both, made}
use Rattle.lin_certificates.proofs.locks.is_twice_by.Goals as goal

pub returns : goal.returns
returns c =
    made _ (both _ _ (both _ _ (both _ _ c.is_among-one.ensures c.is_among-two.ensures) c.comes_before-before.ensures) c.all_ahead-none.ensures)
    (λ is. record { one = is.0.0.0; two = is.0.0.1; in_time = is.0.1; none_between = is.1 }) (λ is. (((is.one, is.two), is.in_time), is.none_between))
