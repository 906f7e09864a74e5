use Rattle.std.proofs.Common.{◌-◌, take, ap, ◌∙◌}
use Rattle.lin_sets.proofs.intervals.Intervals.forget_read.Goals as goal

pub returns-clause-reads : goal.returns-clause-reads
returns-clause-reads c = c.pop.ensures.rest ∙ ap (λ k. take (k - 1) c.args.self.now.reads.items) c.args.self.now.reads.ok.0
