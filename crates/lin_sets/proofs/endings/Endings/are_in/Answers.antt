use Rattle.std.proofs.Common.{◌<◌, ◌-◌, ◌↔◌, IsTrue, Contains, arith, subst}
use Rattle.lin_sets.specs.declared.endings.Ending.{Ending}
use Rattle.lin_sets.proofs.Learning.{all_earlier, looked_since, one_missing}
use Rattle.lin_sets.proofs.endings.Endings.are_in.Goals as goal

pub returns-then-ending-from-clause-all : goal.returns-then-ending-from-clause-all
returns-then-ending-from-clause-all c = λ _ listed.
    let s = c.args.self.now in
    let at = c.loop-at.at in
    looked_since s c.args.set.now listed c.args.from c.args.place at c.loop-at.invariant.1
    (all_earlier s c.args.set.now listed c.args.from at c.index-ending.result.now c.loop-at-test.true c.loop-at.invariant.0
    (subst (λ (x : Ending). x.end < c.args.from) c.index-ending.ensures c.if-ending-from.true))

pub returns-then-not-has-clause-missing : goal.returns-then-not-has-clause-missing
returns-then-not-has-clause-missing c = λ _ listed.
    one_missing c.args.self.now c.args.set.now listed c.args.place (c.loop-at.at - 1) c.index-ending.result.now c.has.result
    (omega (arith, c.loop-at-test.true, c.loop-at.invariant.0)) (subst (λ (x : Ending). x.end < c.args.place) c.index-ending.ensures c.if-ending-place.true)
    (subst (λ (x : Ending). IsTrue c.has.result ↔ Contains c.args.set.now x.item) c.index-ending.ensures c.has.ensures) c.if-not-has.true
