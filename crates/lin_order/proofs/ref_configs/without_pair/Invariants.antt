use Rattle.std.proofs.Common.{◌≡◌, take, filter}
use Rattle.lin_lists.specs.lemmas.Elements.{begins_other}
use Rattle.lin_order.proofs.ref_configs.without_pair.Given as goal

abbrev pub invariant-loop-pair : goal.invariant-loop-pair
invariant-loop-pair l = l.fewer.items ≡ filter (begins_other l.process) (take l.pair-index l.placed)
