use Rattle.lin_locks.proofs.Undoing.{of_none}
use Rattle.lin_locks.proofs.locks.Lock.new.Goals as goal

pub returns-clause-none : goal.returns-clause-none
returns-clause-none c = λ h. of_none (record { standing = c.new.result; changes = c.new-2.result }) c.new-2.ensures.items h c.new.ensures
