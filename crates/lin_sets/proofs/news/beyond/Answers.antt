use Rattle.std.proofs.Common.{◌+◌, sym, subst, arith}
use Rattle.lin_sets.specs.News.{IsPartly}
use Rattle.lin_sets.proofs.Beyond.{partly_all, partly_met, partly_more}
use Rattle.lin_sets.proofs.news.beyond.Goals as goal

pub loop-item-preserved-then-is_at : goal.loop-item-preserved-then-is_at
loop-item-preserved-then-is_at c =
    let there = c.is_at.ensures c.if-is_at.true in
    partly_met c.args.items.now c.args.other.now c.loop-item.more.items c.loop-item.item-index c.loop-item.met c.loop-item.invariant _ c.loop-item-test.true there.0 there.1

pub loop-item-preserved : goal.loop-item-preserved
loop-item-preserved c =
    subst (IsPartly c.args.items.now c.args.other.now (c.loop-item.item-index + 1) c.loop-item.met) (sym c.in_ok-push.ensures.items)
    (partly_more c.args.items.now c.args.other.now c.loop-item.more.items c.loop-item.item-index c.loop-item.met c.loop-item.invariant _ c.loop-item-test.true)

pub returns : goal.returns
returns c = partly_all c.args.items.now c.args.other.now c.loop-item.more.items c.loop-item.item-index c.loop-item.met c.loop-item.invariant
    (omega (arith, c.loop-item-test.false)) (omega (arith, c.if-met-other.false))
