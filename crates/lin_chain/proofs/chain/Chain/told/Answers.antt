use Rattle.lin_chain.proofs.chain.Chain.told.Goals as goal

pub returns-in-Some-clause-right : goal.returns-in-Some-clause-right
returns-in-Some-clause-right c = λ h budget all right enough. c.in-Some.ensures.right h budget all right

pub returns-in-None-clause-right : goal.returns-in-None-clause-right
returns-in-None-clause-right c = λ h budget all right enough. c.told.ensures.right h budget all right.frontier enough
