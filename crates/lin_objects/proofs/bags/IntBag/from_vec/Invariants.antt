use Rattle.std.proofs.Common.{◌≡◌, take}
use Rattle.lin_objects.specs.Bags.{bag_of}
use Rattle.lin_objects.proofs.bags.IntBag.from_vec.Given as goal

abbrev pub invariant-loop-item : goal.invariant-loop-item
invariant-loop-item l = l.bag ≡ bag_of (take l.item-index l.item-items)
