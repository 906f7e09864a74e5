use Rattle.std.proofs.Common.{◌+◌, [], drop, arith}
use Rattle.lin_edn.specs.Grammar.{empty, element}
use Rattle.lin_history.proofs.Maps.{vector_opens}
use Rattle.lin_history.proofs.values.key_at.Goals as goal

pub returns-clause-opens : goal.returns-clause-opens
returns-clause-opens c = vector_opens c.args.text.now c.args.from (let h = c.if-from-text.false in omega arith) c.if-text-from-ne91.false

pub returns-clause-key : goal.returns-clause-key
returns-clause-key c =
    let inner = c.args.from + 1 in
    let item = c.in_ok-key.ensures.item in
    (item.0, item.1, item.2, λ n. element (c.white_until-at.ensures.row n inner (drop inner c.args.text.now) [] empty) (item.3 n))
