use Rattle.lin_order.specs.lemmas.Lists.{yes_since, no_since}
use Rattle.lin_order.proofs.Outcomes.{kept_more, kept_all}
use Rattle.lin_order.proofs.conditions.marks_each_ok.Goals as goal

pub returns-then-not-is_kept : goal.returns-then-not-is_kept
returns-then-not-is_kept c =
    no_since (λ all. let yes = c.is_kept.ensures.1 (λ end reply ok. all c.loop-at.at end reply ok) in let no = c.if-not-is_kept.true in cc)

pub loop-at-preserved : goal.loop-at-preserved
loop-at-preserved c = kept_more c.args.events.now c.args.marks.now c.loop-at.at c.loop-at.invariant (c.is_kept.ensures.0 c.if-not-is_kept.false)

pub returns : goal.returns
returns c = yes_since (kept_all c.args.events.now c.args.marks.now c.loop-at.at c.loop-at.invariant c.requires.each c.loop-at-test.false)
