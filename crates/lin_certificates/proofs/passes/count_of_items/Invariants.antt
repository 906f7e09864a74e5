use Rattle.std.proofs.Common.{◌≤◌}
use Rattle.lin_certificates.specs.Words.{Concerns, IsOfWhich}
use Rattle.lin_certificates.proofs.Passing.{CountBelow}
use Rattle.lin_certificates.proofs.passes.count_of_items.Given as goal

abbrev pub invariant-loop-at : goal.invariant-loop-at
invariant-loop-at l = (l.count ≤ l.at) × CountBelow (λ at. IsOfWhich l.events l.which at × Concerns l.events l.items at) l.at l.count
