use Rattle.lin_explain.specs.IllFormed.{IsLastPlace}
use Rattle.lin_explain.proofs.ill_formed.last_before.Given as goal

abbrev pub invariant-loop-earlier : goal.invariant-loop-earlier
invariant-loop-earlier l = IsLastPlace l.present.history l.process l.earlier l.found
