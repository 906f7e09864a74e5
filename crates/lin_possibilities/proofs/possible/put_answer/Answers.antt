use Rattle.std.proofs.Common.{◌≡◌, ◌∙◌, ap, ℕ, sym}
use Rattle.lin_events.specs.declared.calls.Reply.{Reply}
use Rattle.lin_possibilities.proofs.Showing.{taken_none, taken_put}
use Rattle.lin_possibilities.proofs.possible.put_answer.Goals as goal

pub returns-then-pair-process : goal.returns-then-pair-process
returns-then-pair-process c = taken_none (λ (p : ℕ × Reply). λ reply. p ≡ (c.args.process, reply)) c.args.pair.now c.args.way c.args.found.now.entries (λ reply same. c.if-pair-process.true (ap (λ (p : ℕ × Reply). p.0) same))

pub returns : goal.returns
returns c =
    let process : c.args.pair.now.0 ≡ c.args.process = c.if-pair-process.false in
    let same : c.args.pair.now ≡ (c.args.process, c.in_ok-reply.reply) = λ i. (process i, sym c.in_ok-reply.ensures i) in
    taken_put (λ (p : ℕ × Reply). λ reply. p ≡ (c.args.process, reply)) c.args.pair.now c.args.way c.in_ok-reply.reply c.args.found.now.entries c.put_reply.new.found.entries
    same (λ other is. c.in_ok-reply.ensures ∙ ap (λ (p : ℕ × Reply). p.1) is) c.in_ok-put_reply.ensures
