use Rattle.std.proofs.Common.{All, get_or}
use Rattle.lin_order.specs.inner.Checking.{HoldsPlacing}
use Rattle.lin_order.specs.lemmas.Lists.{yes_since, no_since}
use Rattle.lin_order.specs.lemmas.Each.{all_more, not_all, at_end}
use Rattle.lin_order.proofs.Opening.{number_read}
use Rattle.lin_order.proofs.refutations.holds_placings.Goals as goal

pub returns-then-not-held : goal.returns-then-not-held
returns-then-not-held c =
    no_since (not_all c.args.pending.now c.loop-at.at-index (get_or c.args.pending.now c.loop-at.at-index 0) c.loop-at-test.true (number_read c.args.pending.now c.loop-at.at-index c.loop-at-test.true)
    (HoldsPlacing c.args.kind c.args.events.now c.args.members.now.keys c.args.config.now) (λ holds. let yes' = c.in_ok-held.ensures.1 holds in let no' = c.if-not-held.true in cc))

pub loop-at-preserved : goal.loop-at-preserved
loop-at-preserved c =
    all_more c.args.pending.now c.loop-at.at-index (get_or c.args.pending.now c.loop-at.at-index 0) c.loop-at-test.true (number_read c.args.pending.now c.loop-at.at-index c.loop-at-test.true)
    (HoldsPlacing c.args.kind c.args.events.now c.args.members.now.keys c.args.config.now) c.loop-at.invariant (c.in_ok-held.ensures.0 c.if-not-held.false)

pub returns : goal.returns
returns c = yes_since (at_end c.args.pending.now c.loop-at.at-index (All (HoldsPlacing c.args.kind c.args.events.now c.args.members.now.keys c.args.config.now)) c.loop-at-test.false c.loop-at.invariant)
