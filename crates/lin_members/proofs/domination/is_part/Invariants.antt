use Rattle.std.proofs.Common.{All, Contains, take}
use Rattle.lin_members.proofs.domination.is_part.Given as goal

abbrev pub invariant-loop-pair : goal.invariant-loop-pair
invariant-loop-pair l = All (λ x. Contains l.others x) (take l.pair-index l.pairs)
