use Rattle.std.proofs.Common.{arith}
use Rattle.lin_order.proofs.Pairs.{put_at}
use Rattle.lin_order.proofs.ref_configs.place_of.Goals as goal

pub returns-clause-added : goal.returns-clause-added
returns-clause-added c reply =
    put_at c.args.process reply c.args.placed.now c.requires.rising c.requires.absent c.loop-i.i c.loop-i.invariant.within c.loop-i.invariant.below (λ inside. absurd (let past = c.loop-i-test.false in omega arith))

pub returns-then-placed-i-clause-added : goal.returns-then-placed-i-clause-added
returns-then-placed-i-clause-added c reply =
    put_at c.args.process reply c.args.placed.now c.requires.rising c.requires.absent c.loop-i.i c.loop-i.invariant.within c.loop-i.invariant.below
    (λ inside. (c.index-placed-i.result, c.if-placed-i.true))
