use Rattle.lin_possibilities.proofs.possible.Possible.after.Goals as goal

pub of-requires-clause-known : goal.of-requires-clause-known
of-requires-clause-known c = c.in_ok-run.ensures.known c.args.events.now
