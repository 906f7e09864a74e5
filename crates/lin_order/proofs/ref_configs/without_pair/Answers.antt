use Rattle.std.proofs.Common.{◌≡◌, ◌++◌, ◌∷◌, [], ℕ, List, filter, sym, ◌∙◌, subst, ap}
use Rattle.lin_events.specs.declared.calls.Reply.{Reply}
use Rattle.lin_order.specs.Configurations.{IsAdded}
use Rattle.lin_lists.specs.lemmas.Elements.{begins_other}
use Rattle.lin_order.specs.lemmas.Each.{at_end}
use Rattle.lin_order.proofs.Pairs.{taken_out, kept_pair, dropped_pair}
use Rattle.lin_order.proofs.ref_configs.without_pair.Goals as goal

pub loop-pair-preserved : goal.loop-pair-preserved
loop-pair-preserved c =
    let d = c.pair-item.result in
    let copied : (d.0, c.in_ok-reply.reply) ≡ d = λ i. (d.0, c.in_ok-reply.ensures i) in
    let pushed : c.push.new.self.items ≡ c.loop-pair.fewer.items ++ d ∷ [] = c.in_ok-push.ensures.items ∙ ap (λ (x : ℕ × Reply). c.loop-pair.fewer.items ++ x ∷ []) copied in
    pushed ∙ ap (λ (xs : List (ℕ × Reply)). xs ++ d ∷ []) c.loop-pair.invariant
    ∙ sym (kept_pair c.args.process c.args.placed.now c.loop-pair.pair-index d c.loop-pair-test.true c.pair-item.is c.if-pair-process.false)

pub loop-pair-preserved-then-pair-process : goal.loop-pair-preserved-then-pair-process
loop-pair-preserved-then-pair-process c =
    c.loop-pair.invariant ∙ sym (dropped_pair c.args.process c.args.placed.now c.loop-pair.pair-index c.pair-item.result c.loop-pair-test.true c.pair-item.is c.if-pair-process.true)

pub returns : goal.returns
returns c reply there =
    let is = at_end c.args.placed.now c.loop-pair.pair-index (λ xs. c.loop-pair.fewer.items ≡ filter (begins_other c.args.process) xs) c.loop-pair-test.false c.loop-pair.invariant in
    subst (λ xs. IsAdded c.args.process reply xs c.args.placed.now) (sym is) (taken_out c.args.process reply c.args.placed.now c.requires.rising there)
