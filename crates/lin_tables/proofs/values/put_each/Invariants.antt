use Rattle.std.proofs.Common.{◌≡◌, ◌++◌, codes, take}
use Rattle.std.specs.List.{flat_map}
use Rattle.lin_tables.specs.Values.{item_worded}
use Rattle.lin_tables.proofs.values.put_each.Given as goal

abbrev pub invariant-loop-item : goal.invariant-loop-item
invariant-loop-item l = l.line.items ≡ l.initial.line.items ++ flat_map (λ x. codes "," ++ item_worded l.wording l.names x) (take l.item-index l.others)
