use Rattle.std.proofs.Common.{◌≡◌, ◌↔◌, IsTrue, refl, subst}
use Rattle.std.proofs.lemmas.Option.{slice_get_read}
use Rattle.lin_order.specs.Refutations.{Config}
use Rattle.lin_order.specs.inner.Checking.{HoldsPlacing, HoldsSteps}
use Rattle.lin_order.specs.lemmas.Lists.{yes_since, if_ok_weaker}
use Rattle.lin_order.proofs.Carrying.{placing_iff, no_placing}
use Rattle.lin_order.proofs.refutations.holds_placing.Goals as goal

pub returns-in-Invoke : goal.returns-in-Invoke
returns-in-Invoke c =
    let event = c.index-events-at.result in
    let there = slice_get_read c.args.events.now _ c.args.at event refl c.requires.within c.index-events-at.is in
    let keys = c.args.members.now.keys in
    let pair : (c.state-state.result.now, c.placed-placed.result.now) ≡ c.args.config.now = λ i. (c.state-state.ensures i, c.placed-placed.ensures i) in
    if_ok_weaker c.holds_steps.result (λ b. IsTrue b ↔ HoldsSteps c.args.kind keys (c.state-state.result.now, c.placed-placed.result.now) event.process c.in-Invoke.call)
    (λ b. IsTrue b ↔ HoldsPlacing c.args.kind c.args.events.now keys c.args.config.now c.args.at)
    (λ b iff. placing_iff c.args.events.now c.args.at event there c.args.kind keys c.args.config.now c.in-Invoke.call c.in-Invoke.is b
    (subst (λ (d : Config). IsTrue b ↔ HoldsSteps c.args.kind keys d event.process c.in-Invoke.call) pair iff)) c.holds_steps.ensures

pub returns-in_default : goal.returns-in_default
returns-in_default c =
    let event = c.index-events-at.result in
    let there = slice_get_read c.args.events.now _ c.args.at event refl c.requires.within c.index-events-at.is in
    yes_since (no_placing c.args.events.now c.args.at event there c.args.kind c.args.members.now.keys c.args.config.now c.in_default.not-Invoke)
