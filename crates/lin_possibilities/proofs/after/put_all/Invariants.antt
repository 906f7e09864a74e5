use Rattle.std.proofs.Common.{◌≡◌, ◌++◌, codes, take}
use Rattle.std.specs.List.{flat_map}
use Rattle.lin_possibilities.specs.Words.{placed_text}
use Rattle.lin_possibilities.proofs.after.put_all.Given as goal

abbrev pub invariant-loop-placed : goal.invariant-loop-placed
invariant-loop-placed l = l.text.items ≡ l.initial.text.items ++ flat_map (λ x. codes ", " ++ placed_text l.names l.events x) (take l.placed-index l.others)
