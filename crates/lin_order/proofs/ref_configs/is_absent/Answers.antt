use Rattle.lin_order.specs.lemmas.Lists.{yes_since, no_since}
use Rattle.lin_order.specs.lemmas.Each.{contains_here, at_end}
use Rattle.lin_order.proofs.Pairs.{absent_from, not_absent, IsOther}
use Rattle.lin_order.proofs.ref_configs.is_absent.Goals as goal

pub returns-then-pair-process : goal.returns-then-pair-process
returns-then-pair-process c =
    no_since (not_absent c.args.process c.args.placed.now c.pair-item.result (contains_here c.args.placed.now c.loop-pair.pair-index c.pair-item.result c.loop-pair-test.true c.pair-item.is) c.if-pair-process.true)

pub returns : goal.returns
returns c = yes_since (absent_from c.args.process c.args.placed.now (at_end c.args.placed.now c.loop-pair.pair-index (IsOther c.args.process) c.loop-pair-test.false c.loop-pair.invariant))
