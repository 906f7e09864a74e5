use Rattle.lin_chain.specs.Chains.{kind_in}
use Rattle.lin_chain.proofs.chain.Chain.decided.Goals as goal

pub returns-in-None-clause-right : goal.returns-in-None-clause-right
returns-in-None-clause-right c = λ h budget all right. c.told-in-None.ensures.right (kind_in c.args.self.now) h budget all right.beside
