use Rattle.std.proofs.Common.{◌+◌, ◌*◌, length, take}
use Rattle.lin_frontier.specs.Walks.{IsTriedAtMost}
use Rattle.lin_compressed_frontier.proofs.ReturningAll.{IsReturningAll}
use Rattle.lin_compressed_frontier.proofs.compressed.return_all.Given as goal

abbrev pub invariant-loop-member : goal.invariant-loop-member
invariant-loop-member g l = record {
  returning : IsReturningAll (g.O.SeqObject.step l.completion.object.now) (g.O.SeqObject.observing l.completion.object.now) l.completion.operation.now l.completion.reply.now l.completion.pending.now l.now
      (take l.member-index l.members) l.fn.nodes l.nodes l.found.items;
  tried : IsTriedAtMost (l.member-index * (2 * ((length l.completion.pending.now + 1) * (length l.completion.pending.now + 1)))) l.fn.meter l.meter;
}
