use Rattle.std.proofs.Common.{All, ◌<◌, length}
use Rattle.lin_order.specs.Refutations.{Config}
use Rattle.lin_order.specs.inner.Checking.{HoldsPlacing}
use Rattle.lin_order.specs.lemmas.Lists.{yes_since, no_since}
use Rattle.lin_lists.specs.lemmas.Elements.{all_of}
use Rattle.lin_order.specs.lemmas.Each.{all_more, at_end, contains_here}
use Rattle.lin_order.proofs.Carrying.{closed_from, closed_to}
use Rattle.lin_order.proofs.Opening.{open_inside}
use Rattle.lin_order.proofs.refutations.is_closed.Goals as goal

pub holds_placings-requires-clause-within : goal.holds_placings-requires-clause-within
holds_placings-requires-clause-within c =
    all_of (λ at. at < length c.args.events.now) c.args.pending.now (λ at there. (open_inside c.args.events.now c.args.n at ((c.requires.opened at).0 there)).1)

pub returns-then-not-held : goal.returns-then-not-held
returns-then-not-held c =
    let here = contains_here c.args.set.now c.loop-config.config-index c.config-item.result c.loop-config-test.true c.config-item.is in
    no_since (λ closed.
    let yes' = c.in_ok-held.ensures.1 (closed_to c.args.kind c.args.events.now c.args.n c.args.members.now.keys c.args.set.now c.args.pending.now c.requires.same c.requires.opened closed c.config-item.result here) in
    let no' = c.if-not-held.true in
    cc)

pub loop-config-preserved : goal.loop-config-preserved
loop-config-preserved c =
    all_more c.args.set.now c.loop-config.config-index c.config-item.result c.loop-config-test.true c.config-item.is
    (λ (d : Config). All (HoldsPlacing c.args.kind c.args.events.now c.args.members.now.keys d) c.args.pending.now) c.loop-config.invariant (c.in_ok-held.ensures.0 c.if-not-held.false)

pub returns : goal.returns
returns c =
    yes_since (closed_from c.args.kind c.args.events.now c.args.n c.args.members.now.keys c.args.set.now c.args.pending.now c.requires.same c.requires.opened
    (at_end c.args.set.now c.loop-config.config-index (All (λ (d : Config). All (HoldsPlacing c.args.kind c.args.events.now c.args.members.now.keys d) c.args.pending.now)) c.loop-config-test.false c.loop-config.invariant))
