use Rattle.std.proofs.Common.{All}
use Rattle.std.proofs.lemmas.List.Elements.{All-contains}
use Rattle.lin_order.specs.inner.Checking.{HoldsLeftOf}
use Rattle.lin_order.specs.lemmas.Lists.{yes_since, no_since}
use Rattle.lin_order.specs.lemmas.Each.{all_more, at_end, contains_here}
use Rattle.lin_order.proofs.refutations.holds_all_left.Goals as goal

pub returns-then-not-held : goal.returns-then-not-held
returns-then-not-held c =
    let here = contains_here c.args.set.now c.loop-config.config-index c.config-item.result c.loop-config-test.true c.config-item.is in
    no_since (λ all. let yes' = c.in_ok-held.ensures.1 (λ d. all c.config-item.result d here) in let no' = c.if-not-held.true in cc)

pub loop-config-preserved : goal.loop-config-preserved
loop-config-preserved c =
    all_more c.args.set.now c.loop-config.config-index c.config-item.result c.loop-config-test.true c.config-item.is
    (HoldsLeftOf c.args.event.now c.args.members.now.keys) c.loop-config.invariant (c.in_ok-held.ensures.0 c.if-not-held.false)

pub returns : goal.returns
returns c =
    let all = at_end c.args.set.now c.loop-config.config-index (All (HoldsLeftOf c.args.event.now c.args.members.now.keys)) c.loop-config-test.false c.loop-config.invariant in
    yes_since (λ b d there. All-contains (HoldsLeftOf c.args.event.now c.args.members.now.keys) c.args.set.now b all there d)
