use Rattle.lin_edn.specs.View.{view}
use Rattle.lin_formats.proofs.mark.mark_one.Goals as goal

pub returns-clause-marked : goal.returns-clause-marked
returns-clause-marked c = λ k is. c.mark_said.ensures.marked k (view c.args.element.now) (c.event_of.ensures.event k is)
