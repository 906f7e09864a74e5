use Rattle.std.proofs.Common.{vec_len}
use Rattle.lin_engines.specs.Witnesses.{IsLonger}
use Rattle.lin_engines.proofs.witness.Witness.suggest_rest.Given as goal

abbrev pub invariant-loop-self : goal.invariant-loop-self
invariant-loop-self l = IsLonger l.initial.self l.self

abbrev pub decreases-loop-self : goal.decreases-loop-self
decreases-loop-self l = vec_len l.self.order
