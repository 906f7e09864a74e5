use Rattle.lin_certificates.specs.Words.{IsOfWhich}
use Rattle.lin_certificates.proofs.Passing.{LastBelow}
use Rattle.lin_certificates.proofs.passes.last_of.Given as goal

abbrev pub invariant-loop-at : goal.invariant-loop-at
invariant-loop-at l = LastBelow (IsOfWhich l.events l.which) l.at l.last
