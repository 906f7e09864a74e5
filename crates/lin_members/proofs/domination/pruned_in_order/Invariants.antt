use Rattle.std.proofs.Common.{◌≤◌, length}
use Rattle.lin_members.specs.lemmas.Undominated.{IsPrunedFrom}
use Rattle.lin_members.proofs.domination.pruned_in_order.Given as goal

abbrev pub invariant-loop-at : goal.invariant-loop-at
invariant-loop-at g l = record {
  within : l.at ≤ length l.kept.items;
  pruned : IsPrunedFrom (g.O.SeqObject.observing l.object) l.pending l.fn.members.items l.at l.kept.items;
}

abbrev pub decreases-loop-at : goal.decreases-loop-at
decreases-loop-at g l = l.at
