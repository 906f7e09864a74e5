use Rattle.lin_queues.proofs.operations.may_put_item.Goals as goal

pub returns-in-None : goal.returns-in-None
returns-in-None c none is = c.in-None.ensures c.args.item is.0
