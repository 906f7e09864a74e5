use Rattle.lin_possibilities.proofs.Keeping.{known_of_all}
use Rattle.lin_possibilities.proofs.possible.Possible.go_on.Goals as goal

pub of-requires-clause-known : goal.of-requires-clause-known
of-requires-clause-known c = known_of_all c.args.self.run c.args.events.now c.args.from c.requires.before.known
