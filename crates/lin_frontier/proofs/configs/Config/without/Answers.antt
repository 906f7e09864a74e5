use Rattle.std.proofs.Common.{◌∙◌, sym, ap}
use Rattle.std.specs.Prelude.{◌≡◌, ℕ}
use Rattle.lin_events.specs.declared.calls.Reply.{Reply}
use Rattle.lin_frontier.specs.lemmas.Inserting.{dropped_pair}
use Rattle.lin_frontier.proofs.configs.Config.without.Goals as goal

pub loop-pair-preserved-then-pair-process : goal.loop-pair-preserved-then-pair-process
loop-pair-preserved-then-pair-process g c =
    let same : c.as_slice-pairs.result.now ≡ c.args.self.now.1 = c.as_slice-pairs.ensures ∙ ap (λ x. x.1) c.self.view_is in
    c.loop-pair.invariant
    ∙ sym (dropped_pair c.args.process c.args.self.now.1 c.loop-pair.pair-index c.pair-item.result (rw same at c.loop-pair-test.true) (ap (λ (p : ℕ × Reply). p.0) (sym (rw same at c.pair-item.is)) ∙ c.if-pair-process.true))
