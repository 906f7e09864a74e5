use Rattle.lin_events.specs.Sameness.{Decides-item_eq, items_tell, items_total}
use Rattle.lin_events.proofs.items.items_are_ordered.Goals as goal

pub returns-clause-order : goal.returns-clause-order
returns-clause-order c = items_total

pub returns-clause-same : goal.returns-clause-same
returns-clause-same c = (items_tell, Decides-item_eq)
