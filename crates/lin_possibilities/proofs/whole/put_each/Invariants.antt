use Rattle.std.proofs.Common.{◌≡◌, ◌++◌, codes, take}
use Rattle.std.specs.List.{flat_map}
use Rattle.lin_texts.specs.Items.{item_text}
use Rattle.lin_possibilities.proofs.whole.put_each.Given as goal

abbrev pub invariant-loop-item : goal.invariant-loop-item
invariant-loop-item l = l.words.items ≡ l.initial.words.items ++ flat_map (λ x. codes "," ++ item_text l.names x) (take l.item-index l.others)
