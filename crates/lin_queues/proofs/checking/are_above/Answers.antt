use Rattle.std.proofs.lemmas.Bool.{leb-true}
use Rattle.lin_queues.specs.Ranks.{HasPut}
use Rattle.lin_queues.proofs.Returns.{ranks_from}
use Rattle.lin_queues.proofs.checking.are_above.Goals as goal

pub returns : goal.returns
returns c enough x within later = (
  c.puts_before.result,
  leb-true c.args.high c.puts_before.result enough,
  ranks_from c.args.events.now (HasPut c.args.events.now) c.args.place x c.puts_before.result later c.puts_before.ensures,
)
