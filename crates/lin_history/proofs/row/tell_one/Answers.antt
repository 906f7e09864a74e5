use Rattle.lin_edn.specs.View.{view}
use Rattle.lin_history.proofs.Fronts.{told_failed}
use Rattle.lin_history.proofs.row.tell_one.Goals as goal

pub returns-in-Err-clause-told : goal.returns-in-Err-clause-told
returns-in-Err-clause-told c = λ m is. told_failed m (view c.args.element.now) c.args.ready.now.items c.in-Err.fault (c.in-Err.ensures.event m is)
