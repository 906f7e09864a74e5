use Rattle.std.proofs.Common.{vec_len}
use Rattle.lin_frontier.specs.lemmas.Absorbing.{IsAbsorbing}
use Rattle.lin_frontier.proofs.search.absorb.Given as goal

abbrev pub invariant-loop-state : goal.invariant-loop-state
invariant-loop-state g l = IsAbsorbing l.fn.out.items l.rest.items l.parent l.fn.found.entries l.found.entries l.fn.nodes l.nodes

abbrev pub decreases-loop-state : goal.decreases-loop-state
decreases-loop-state g l = vec_len l.rest
