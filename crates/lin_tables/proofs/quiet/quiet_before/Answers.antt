use Rattle.lin_tables.proofs.Quieting.{some_quiet}
use Rattle.lin_tables.proofs.quiet.quiet_before.Goals as goal

pub unreachable-requires : goal.unreachable-requires
unreachable-requires c = some_quiet c.args.events.now c.args.call c.requires.begins c.in_default.ensures
