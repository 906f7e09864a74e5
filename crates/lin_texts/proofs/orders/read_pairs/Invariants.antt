use Rattle.std.proofs.Common.{◌-◌, length}
use Rattle.lin_names.specs.Names.{Begins}
use Rattle.lin_texts.proofs.Pairs.{AreRead}
use Rattle.lin_texts.proofs.orders.read_pairs.Given as goal

abbrev pub invariant-words : goal.invariant-words
invariant-words l = record {
  begun : Begins l.fn.names l.names;
  read : AreRead l.names l.text l.from l.order.items;
}

abbrev pub decreases-words : goal.decreases-words
decreases-words l = length l.text - l.from
