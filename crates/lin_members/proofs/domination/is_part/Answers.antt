use Rattle.std.proofs.Common.{ℕ, Contains, refl, sym, ◌∙◌, true≢false}
use Rattle.lin_events.specs.declared.calls.Reply.{Reply}
use Rattle.lin_frontier.specs.lemmas.Each.{all_more, not_all, all_end}
use Rattle.lin_members.proofs.domination.is_part.Goals as goal

pub returns-then-not-is_placed : goal.returns-then-not-is_placed
returns-then-not-is_placed c = (
  λ t. absurd (true≢false (sym t)),
  λ all. absurd (not_all c.args.pairs.now c.loop-pair.pair-index c.pair-item.result c.loop-pair-test.true c.pair-item.is (λ (x : ℕ × Reply). Contains c.args.others.now x) (λ holds. true≢false (sym (c.is_placed.ensures.1 holds) ∙ c.if-not-is_placed.true)) all),
)

pub loop-pair-preserved : goal.loop-pair-preserved
loop-pair-preserved c =
    all_more c.args.pairs.now c.loop-pair.pair-index c.pair-item.result c.loop-pair-test.true c.pair-item.is (λ (x : ℕ × Reply). Contains c.args.others.now x) c.loop-pair.invariant (c.is_placed.ensures.0 c.if-not-is_placed.false)

pub returns : goal.returns
returns c = (
  λ _. all_end (λ (x : ℕ × Reply). Contains c.args.others.now x) c.args.pairs.now c.loop-pair.pair-index c.loop-pair-test.false c.loop-pair.invariant,
  λ _. refl,
)
