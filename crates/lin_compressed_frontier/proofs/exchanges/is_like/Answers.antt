use Rattle.std.proofs.Common.{◌∙◌, sym, true≢false}
use Rattle.lin_events.specs.Replies.{call_same}
use Rattle.lin_compressed_frontier.proofs.exchanges.is_like.Goals as goal
use Rattle.lin_compressed_frontier.proofs.exchanges.is_like.Goals.{then-other, else-other}

pub returns-then-eq : goal.returns-then-eq
returns-then-eq c = λ h. elim c.if-other.branch [
  | then-other w ↦ (w.if-other.true, call_same c.args.other.now.call c.args.operation.now.call (sym w.eq.ensures ∙ sym w.value-is ∙ c.if-eq.true), c.is_absent.ensures.0 h)
  | else-other w ↦ absurd (true≢false (sym c.if-eq.true ∙ w.value-is ∙ w.if-other.false))
]

pub returns-else-eq : goal.returns-else-eq
returns-else-eq c = λ h. absurd (true≢false (sym h ∙ c.if-eq.false))
