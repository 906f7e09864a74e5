use Rattle.std.proofs.Common.{◌≡◌, All, take}
use Rattle.lin_order.specs.Refutations.{Config}
use Rattle.lin_order.proofs.refutations.has.Given as goal

abbrev pub invariant-loop-config : goal.invariant-loop-config
invariant-loop-config l = All (λ (c : Config). c ≡ l.wanted → ⊥) (take l.config-index l.set)
