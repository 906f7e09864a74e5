use Rattle.lin_certificates.proofs.Deciding.{both, either, made}
use Rattle.lin_certificates.proofs.queues.stays.Goals as goal

pub returns : goal.returns
returns c =
    made _ (both _ _ c.all_behind-taken_later.ensures (either _ _ c.is_once-once.ensures c.all_behind-open_later.ensures)) (λ is. record { taken_later = is.0; open_later = is.1 }) (λ is. (is.taken_later, is.open_later))
