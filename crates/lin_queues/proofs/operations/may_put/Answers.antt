use Rattle.lin_queues.proofs.operations.may_put.Goals as goal

pub returns-in-None : goal.returns-in-None
returns-in-None c none is = c.in-None.ensures is.0.0 is.0.1
