use Rattle.std.proofs.Common.{◌≡◌, ◌++◌, codes, take}
use Rattle.std.specs.List.{flat_map}
use Rattle.lin_texts.specs.Texts.{placed_text}
use Rattle.lin_texts.proofs.texts.put_order.Given as goal

abbrev pub invariant-loop-pair : goal.invariant-loop-pair
invariant-loop-pair l = l.line.items ≡ l.initial.line.items ++ flat_map (λ pair. codes " " ++ placed_text l.names pair) (take l.pair-index l.others)
