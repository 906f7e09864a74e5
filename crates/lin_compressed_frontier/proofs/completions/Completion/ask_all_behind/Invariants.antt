use Rattle.std.proofs.Common.{length, vec_len}
use Rattle.lin_compressed_frontier.proofs.Placings.{AskedBehind, IsAsking, IsCounting}
use Rattle.lin_compressed_frontier.proofs.completions.Completion.ask_all_behind.Given as goal

abbrev pub invariant-loop-config : goal.invariant-loop-config
invariant-loop-config g l = record {
  asking : IsAsking (g.O.SeqObject.step l.self.object.now) (g.O.SeqObject.observing l.self.object.now) l.self.operation.now l.self.reply.now l.self.pending.now l.now l.member
      (AskedBehind (g.O.SeqObject.step l.self.object.now) (g.O.SeqObject.observing l.self.object.now) l.self.operation.now l.self.reply.now l.self.pending.now l.now l.member) l.initial.next.items l.next.items l.fn.nodes l.nodes l.fn.out.items l.out.items;
  counting : IsCounting (length l.self.pending.now) (length l.next.items) l.fn.meter l.meter;
}

abbrev pub decreases-loop-config : goal.decreases-loop-config
decreases-loop-config g l = vec_len l.next
