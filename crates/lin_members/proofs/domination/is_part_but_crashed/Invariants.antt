use Rattle.std.proofs.Common.{◌≡◌, ◌⊎◌, true, All, Contains, take}
use Rattle.lin_frontier.specs.Masks.{is_crashed}
use Rattle.lin_members.proofs.domination.is_part_but_crashed.Given as goal

abbrev pub invariant-loop-pair : goal.invariant-loop-pair
invariant-loop-pair l = All (λ x. Contains l.others x ⊎ (is_crashed l.pending x.0 ≡ true)) (take l.pair-index l.pairs)
