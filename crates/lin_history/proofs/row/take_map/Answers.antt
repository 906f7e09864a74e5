use Rattle.lin_edn.specs.View.{view}
use Rattle.lin_history.proofs.Waiting.{waits_on}
use Rattle.lin_history.proofs.row.take_map.Goals as goal

pub returns-clause-told : goal.returns-clause-told
returns-clause-told c = λ m is.
    waits_on m (view c.args.element.now) c.args.row.now.waiting.items c.wait.new.waiting.items c.args.row.now.ends c.wait.new.ends (c.in_ok-wait.ensures.ok m is)
