use Rattle.lin_engines.proofs.Growing.{longer_then, same_hint}
use Rattle.lin_engines.proofs.witness.Witness.place_suggested.Goals as goal

pub returns-in_default-clause-longer : goal.returns-in_default-clause-longer
returns-in_default-clause-longer c = same_hint c.args.self.now c.pop.new.self

pub returns-in_default-find-clause-longer : goal.returns-in_default-find-clause-longer
returns-in_default-find-clause-longer c = same_hint c.args.self.now c.pop.new.self

pub returns-in_err-place-clause-longer : goal.returns-in_err-place-clause-longer
returns-in_err-place-clause-longer c = longer_then c.args.self.now (record c.args.self.now { hint = c.pop.new.self }) c.place.new.self (same_hint c.args.self.now c.pop.new.self) c.place.ensures.longer

pub returns-clause-longer : goal.returns-clause-longer
returns-clause-longer c = longer_then c.args.self.now (record c.args.self.now { hint = c.pop.new.self }) c.place.new.self (same_hint c.args.self.now c.pop.new.self) c.place.ensures.longer
