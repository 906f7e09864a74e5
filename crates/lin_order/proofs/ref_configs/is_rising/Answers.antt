use Rattle.std.proofs.Common.{arith}
use Rattle.lin_order.specs.Configurations.{IsRising}
use Rattle.lin_order.specs.lemmas.Lists.{yes_since, no_since}
use Rattle.lin_order.specs.lemmas.Each.{at_end}
use Rattle.lin_order.proofs.Pairs.{rising_more, rising_not}
use Rattle.lin_order.proofs.ref_configs.is_rising.Goals as goal

pub returns-then-placed-i : goal.returns-then-placed-i
returns-then-placed-i c = no_since (rising_not c.args.placed.now c.loop-i.i c.loop-i.invariant.some c.loop-i-test.true c.index-placed-i-in-loop-i.result c.index-placed-i-in-loop-i.is c.index-placed-i.result c.index-placed-i.is c.if-placed-i.true)

pub loop-i-preserved : goal.loop-i-preserved
loop-i-preserved c = record {
  some = omega arith;
  rising = rising_more c.args.placed.now c.loop-i.i c.loop-i.invariant.some c.loop-i-test.true c.index-placed-i-in-loop-i.result c.index-placed-i-in-loop-i.is c.index-placed-i.result c.index-placed-i.is c.if-placed-i.false c.loop-i.invariant.rising;
}

pub returns : goal.returns
returns c = yes_since (at_end c.args.placed.now c.loop-i.i IsRising c.loop-i-test.false c.loop-i.invariant.rising)
