use Rattle.std.proofs.Common.{arith}
use Rattle.lin_frontier.specs.lemmas.Inserting.{place_at}
use Rattle.lin_frontier.proofs.configs.place_of.Goals as goal

pub returns-clause-place : goal.returns-clause-place
returns-clause-place c reply = place_at c.args.process reply c.args.placed.now c.loop-i.i c.loop-i.invariant.within c.loop-i.invariant.below (λ inside. absurd (let past = c.loop-i-test.false in omega arith))

pub returns-then-placed-i-clause-place : goal.returns-then-placed-i-clause-place
returns-then-placed-i-clause-place c reply =
    place_at c.args.process reply c.args.placed.now c.loop-i.i c.loop-i.invariant.within c.loop-i.invariant.below
    (λ inside. (c.index-placed-i.result, c.if-placed-i.true))
