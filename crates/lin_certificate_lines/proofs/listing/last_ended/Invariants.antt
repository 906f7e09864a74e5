use Rattle.std.proofs.Common.{◌≡◌, ◌⊎◌, Contains}
use Rattle.lin_certificate_lines.proofs.listing.last_ended.Given as goal

abbrev pub invariant-loop-at : goal.invariant-loop-at
invariant-loop-at l = (l.last ≡ l.first) ⊎ Contains l.others l.last
