use Rattle.lin_certificates.proofs.Deciding.{both, made}
use Rattle.lin_certificates.proofs.queues.is_inside.Goals as goal

pub returns : goal.returns
returns c =
    made _ (both _ _ (both _ _ (both _ _ c.is_among-put.ensures c.is_among-found.ensures) c.comes_before-before.ensures) c.stays-stayed.ensures)
    (λ is. record { put = is.0.0.0; found = is.0.0.1; in_time = is.0.1; stays = is.1 }) (λ is. (((is.put, is.found), is.in_time), is.stays))
