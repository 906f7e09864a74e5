use Rattle.lin_history.specs.Table.{or_nil}
use Rattle.lin_history.proofs.usual.event_given.Goals as goal

pub returns-in-Ok-clause-told : goal.returns-in-Ok-clause-told
returns-in-Ok-clause-told c = λ m agrees vs parts. (
  parts.0,
  λ p t f process type function. c.in-Ok.ensures.event m agrees p t f (or_nil vs) parts.1 process type function parts.2 (parts.3 m c.args.doing.event_type c.args.doing.name),
)
