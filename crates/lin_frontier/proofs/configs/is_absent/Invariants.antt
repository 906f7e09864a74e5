use Rattle.std.proofs.Common.{◌≡◌, All, take}
use Rattle.lin_frontier.proofs.configs.is_absent.Given as goal

abbrev pub invariant-loop-pair : goal.invariant-loop-pair
invariant-loop-pair l = All (λ p. p.0 ≡ l.process → ⊥) (take l.pair-index l.placed)
