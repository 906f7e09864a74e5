use Rattle.std.proofs.Common.{vec_len}
use Rattle.lin_compressed_frontier.proofs.Completing.{IsReturning}
use Rattle.lin_compressed_frontier.proofs.completions.Completion.update.Given as goal

abbrev pub invariant-loop-state : goal.invariant-loop-state
invariant-loop-state g l = IsReturning (g.O.SeqObject.step l.self.object.now) (g.O.SeqObject.observing l.self.object.now) l.self.pending.now l.self.operation.now l.self.reply.now l.member l.fn.nodes l.nodes l.fn.out.items l.steps.items l.out.items

abbrev pub decreases-loop-state : goal.decreases-loop-state
decreases-loop-state g l = vec_len l.steps
