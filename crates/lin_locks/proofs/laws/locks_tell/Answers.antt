use Rattle.std.proofs.Common.{take}
use Rattle.lin_locks.specs.Locks.{reached_in}
use Rattle.lin_locks.proofs.Going.{right_is_linearizable}
use Rattle.lin_locks.proofs.Next.{right_now}
use Rattle.lin_locks.specs.inner.Known.{known_of}
use Rattle.lin_locks.proofs.laws.locks_tell.Goals as goal

pub returns : goal.returns
returns c = λ lock h told. right_is_linearizable (known_of lock.standing) (take (reached_in lock) h) (right_now lock h told)
