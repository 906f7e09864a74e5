use Rattle.std.proofs.Common.{◌≤◌}
use Rattle.lin_certificates.specs.Words.{IsOfWhich}
use Rattle.lin_certificates.proofs.Passing.{CountBelow}
use Rattle.lin_certificates.proofs.passes.count_of.Given as goal

abbrev pub invariant-loop-at : goal.invariant-loop-at
invariant-loop-at l = (l.count ≤ l.at) × CountBelow (IsOfWhich l.events l.which) l.at l.count
