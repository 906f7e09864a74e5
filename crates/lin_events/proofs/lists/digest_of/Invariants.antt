use Rattle.std.proofs.Common.{◌≡◌, ◌%◌, ◌^◌, take}
use Rattle.lin_events.specs.Items.{digest_of, factor}
use Rattle.lin_events.proofs.lists.digest_of.Given as goal

abbrev pub invariant-loop-item : goal.invariant-loop-item
invariant-loop-item l = record {
  taken : l.digest ≡ digest_of (take l.item-index l.items);
  weighs : l.weight ≡ factor ^ l.item-index % 18446744073709551616;
}
