use Rattle.std.proofs.Common.{take}
use Rattle.lin_sets.proofs.Learning.{learned_next, learned_same}
use Rattle.lin_sets.proofs.endings.Endings.learn_some.Goals as goal

pub loop-item-preserved : goal.loop-item-preserved
loop-item-preserved c = record {
  learned = learned_next c.args.self.now c.loop-item.self c.learn.new.self c.args.items.now c.loop-item.item-index _ c.args.end c.loop-item-test.true c.loop-item.invariant.learned c.in_ok-learn.ensures.learned;
  listed = λ listed by. c.in_ok-learn.ensures.listed (c.loop-item.invariant.listed listed by) (c.loop-item.invariant.by by);
  by = λ by. c.in_ok-learn.ensures.by (c.loop-item.invariant.by by);
}

pub returns-in_err-learn-clause-some : goal.returns-in_err-learn-clause-some
returns-in_err-learn-clause-some c = (c.loop-item.item-index, learned_same c.args.self.now c.loop-item.self c.learn.new.self (take c.loop-item.item-index c.args.items.now) c.args.end c.loop-item.invariant.learned c.in_err-learn.ensures.same)

pub returns-clause-some : goal.returns-clause-some
returns-clause-some c = (c.loop-item.item-index, c.loop-item.invariant.learned)
