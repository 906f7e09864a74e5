use Rattle.std.proofs.Common.{take}
use Rattle.lin_order.specs.lemmas.Lists.{if_ok_weaker}
use Rattle.lin_locks.specs.Locks.{reached_in}
use Rattle.lin_locks.proofs.Next.{right_now}
use Rattle.lin_locks.proofs.locks.Lock.order.Goals as goal

pub returns : goal.returns
returns c = if_ok_weaker c.paid_order.result _ _ (λ order legal h told. legal (take (reached_in c.args.self.now) h) (right_now c.args.self.now h told)) c.paid_order.ensures
