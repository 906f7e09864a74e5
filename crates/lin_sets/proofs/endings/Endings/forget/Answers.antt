use Rattle.lin_sets.proofs.Forgetting.{kept_more}
use Rattle.lin_sets.proofs.endings.Endings.forget.Goals as goal

pub loop-preserved : goal.loop-preserved
loop-preserved c = record {
  listed = λ listed. c.forget_last.ensures.listed c.loop-test.true (c.loop.invariant.listed listed);
  kept = λ listed. kept_more c.args.self.now c.loop.self c.forget_last.new.self c.args.place (c.loop.invariant.kept listed) (c.forget_last.ensures.kept c.loop-test.true (c.loop.invariant.listed listed));
}
