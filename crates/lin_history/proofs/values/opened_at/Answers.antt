use Rattle.std.proofs.Common.{arith}
use Rattle.lin_history.proofs.Maps.{vector_opens, set_opens}
use Rattle.lin_history.proofs.values.opened_at.Goals as goal

pub returns-then-text-from-eq91-clause-opens : goal.returns-then-text-from-eq91-clause-opens
returns-then-text-from-eq91-clause-opens c = vector_opens c.args.text.now c.args.from (let h = c.if-from-text.false in omega arith) c.if-text-from-eq91.true

pub returns-clause-opens : goal.returns-clause-opens
returns-clause-opens c =
    set_opens c.args.text.now c.args.from (let h = c.if-text-from-lt2.false in omega arith) c.if-text-from-ne35.false c.if-text-from-ne123.false
