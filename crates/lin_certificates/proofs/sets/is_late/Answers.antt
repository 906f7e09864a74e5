use Rattle.lin_certificates.proofs.Deciding.{both, made}
use Rattle.lin_certificates.proofs.sets.is_late.Goals as goal

pub returns : goal.returns
returns c =
    made _ (both _ _ (both _ _ (both _ _ c.is_among-had.ensures c.is_among-some.ensures) c.all_behind-all.ensures) c.tells-told.ensures)
    (λ is. record { had = is.0.0.0; some_later = is.0.0.1; all_later = is.0.1; told = is.1 }) (λ is. (((is.had, is.some_later), is.all_later), is.told))
