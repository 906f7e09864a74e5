use Rattle.lin_chain.proofs.Chaining.{right_with_frontier}
use Rattle.lin_chain.proofs.chain.Chain.raise.Goals as goal

pub returns-clause-right : goal.returns-clause-right
returns-clause-right c = λ h right.
    right_with_frontier c.args.self.now c.retry.new.self h c.retry.ensures.kind (c.retry.ensures.right h right.frontier) (λ exact. c.retry.ensures.under 1024 (right.spared exact)) right
