use Rattle.std.proofs.Common.{All, Vec, Global, sym, subst}
use Rattle.lin_order.specs.Refutations.{Config, AreRising}
use Rattle.lin_order.specs.lemmas.Lists.{yes_since, no_since}
use Rattle.lin_order.specs.lemmas.Each.{all_more, not_all, at_end}
use Rattle.lin_order.proofs.refutations.all_rise.Goals as goal

pub loop-set-preserved : goal.loop-set-preserved
loop-set-preserved c =
    all_more c.args.sets.now c.loop-set.set-index c.set-item.result c.loop-set-test.true c.set-item.is (λ (set : Vec Config Global). AreRising set.items) c.loop-set.invariant
    (subst AreRising c.as_slice.ensures.value (c.are_rising.ensures.0 c.if-not-are_rising.false))

pub returns-then-not-are_rising : goal.returns-then-not-are_rising
returns-then-not-are_rising c =
    no_since (not_all c.args.sets.now c.loop-set.set-index c.set-item.result c.loop-set-test.true c.set-item.is (λ (set : Vec Config Global). AreRising set.items)
    (λ rises. let yes' = c.are_rising.ensures.1 (subst AreRising (sym c.as_slice.ensures.value) rises) in let no' = c.if-not-are_rising.true in cc))

pub returns : goal.returns
returns c = yes_since (at_end c.args.sets.now c.loop-set.set-index (All (λ (set : Vec Config Global). AreRising set.items)) c.loop-set-test.false c.loop-set.invariant)
