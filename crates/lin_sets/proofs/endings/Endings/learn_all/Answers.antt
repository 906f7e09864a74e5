use Rattle.std.proofs.Common.{take}
use Rattle.lin_sets.proofs.Forgetting.{before_by, forgotten, on_err}
use Rattle.lin_sets.proofs.endings.Endings.learn_all.Goals as goal

pub returns-then-is_err-clause-same : goal.returns-then-is_err-clause-same
returns-then-is_err-clause-same c = on_err c.learn_some-learned.result _ (λ listed early.
    let old = c.args.self.now in
    let then = c.learn_some-learned.new.self in
    let some = c.learn_some-learned.ensures.some in
    let still = c.learn_some-learned.ensures.listed listed (before_by old c.args.end listed early) in
    forgotten old then c.forget.new.self (take some.0 c.args.items.now) c.args.end early some.1 (c.forget.ensures.kept still) (c.forget.ensures.before still))
