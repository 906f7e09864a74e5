use Rattle.std.proofs.Common.{◌-◌, length}
use Rattle.lin_names.specs.Names.{Begins}
use Rattle.lin_texts.proofs.Members.{AreRead}
use Rattle.lin_texts.proofs.orders.read_members.Given as goal

abbrev pub invariant-parts : goal.invariant-parts
invariant-parts l = record {
  begun : Begins l.fn.names l.names;
  read : AreRead l.names l.text l.from l.last l.members.items;
}

abbrev pub decreases-parts : goal.decreases-parts
decreases-parts l = length l.text - l.from
