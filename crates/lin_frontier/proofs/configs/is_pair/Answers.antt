use Rattle.std.proofs.Common.{ap, sym, ◌∙◌}
use Rattle.lin_events.specs.declared.calls.Reply.{Reply}
use Rattle.lin_events.specs.Replies.{reply_Decides}
use Rattle.std.specs.Prelude.{ℕ}
use Rattle.lin_frontier.proofs.configs.is_pair.Goals as goal

pub returns-then-pair-process : goal.returns-then-pair-process
returns-then-pair-process c = (
  λ h.
      let r = (reply_Decides c.args.pair.now.1 c.args.reply.now).0 (sym c.eq.ensures ∙ h) in
      λ i. (c.if-pair-process.true i, r i),
  λ e. c.eq.ensures ∙ (reply_Decides c.args.pair.now.1 c.args.reply.now).1 (ap (λ (p : ℕ × Reply). p.1) e),
)
