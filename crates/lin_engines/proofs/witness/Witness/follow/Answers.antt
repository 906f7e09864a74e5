use Rattle.lin_engines.proofs.Growing.{longer_then, same_hint}
use Rattle.lin_engines.proofs.witness.Witness.follow.Goals as goal

pub returns-clause-longer : goal.returns-clause-longer
returns-clause-longer c = longer_then c.args.self.now c.loop.self _ c.loop.invariant.longer (same_hint c.loop.self c.pop.new.self)
