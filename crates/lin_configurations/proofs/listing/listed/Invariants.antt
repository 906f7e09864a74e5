use Rattle.std.proofs.Common.{take}
use Rattle.lin_frontier.specs.Walks.{IsTriedAtMost}
use Rattle.lin_configurations.proofs.Gathering.{IsGathering}
use Rattle.lin_configurations.proofs.listing.listed.Given as goal

abbrev pub invariant-loop-member : goal.invariant-loop-member
invariant-loop-member g l = record {
  gathering : IsGathering (g.O.SeqObject.starts l.object) (g.O.SeqObject.step l.object) (g.O.SeqObject.observing l.object) l.pending l.fn.nodes l.nodes l.members (take l.member-index l.members) l.all;
  tried : IsTriedAtMost 0 l.fn.meter l.meter;
}
