use Rattle.lin_certificates.proofs.Deciding.{either}
use Rattle.lin_certificates.proofs.locks.is_twice.Goals as goal

pub returns : goal.returns
returns c = either _ _ c.is_twice_by-one.ensures c.is_twice_by-other.ensures
