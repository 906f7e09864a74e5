use Rattle.std.proofs.Common.{vec_len}
use Rattle.lin_configurations.specs.lemmas.Visiting.{IsSifting}
use Rattle.lin_compressed_frontier.proofs.completions.Completion.gives.Given as goal

abbrev pub invariant-loop-reply : goal.invariant-loop-reply
invariant-loop-reply g l = IsSifting (λ a. g.O.SeqObject.step l.self.object.now l.state l.self.operation.now.call a.0 a.1) l.self.reply.now l.steps.items

abbrev pub decreases-loop-reply : goal.decreases-loop-reply
decreases-loop-reply g l = vec_len l.steps
