use Rattle.std.proofs.Common.{◌↔◌, ◌+◌, IsTrue, refl, take}
use Rattle.std.proofs.lemmas.Option.{slice_get_read}
use Rattle.lin_events.specs.declared.events.Event.{Event}
use Rattle.lin_events.specs.Operations.{IsEvent}
use Rattle.lin_order.specs.Refutations.{IsClosed}
use Rattle.lin_order.specs.inner.Checking.{Follows}
use Rattle.lin_order.specs.lemmas.Lists.{no_since, if_ok_weaker}
use Rattle.lin_order.proofs.Carrying.{follows_iff, follows_not}
use Rattle.lin_order.proofs.refutations.follows.Goals as goal

pub returns : goal.returns
returns c =
    let h = c.args.events.now in
    let g = take (c.args.at + 1) h in
    let event = c.index-events-at.result in
    let there = slice_get_read h _ c.args.at event refl c.requires.within c.index-events-at.is in
    if_ok_weaker c.is_closed.result (λ b. IsTrue b ↔ IsClosed c.args.kind g c.args.after.now) (λ b. IsTrue b ↔ ((e : Event) → IsEvent h c.args.at e → Follows c.args.kind g e c.args.before.now c.args.after.now))
    (follows_iff c.args.kind h g c.args.at event there c.args.before.now c.args.after.now c.in_ok-members.members.keys c.in_ok-members.ensures (c.in_ok-held.ensures.0 c.if-not-held.false)) c.is_closed.ensures

pub returns-then-not-held : goal.returns-then-not-held
returns-then-not-held c =
    let h = c.args.events.now in
    let event = c.index-events-at.result in
    let there = slice_get_read h _ c.args.at event refl c.requires.within c.index-events-at.is in
    no_since (follows_not c.args.kind h (take (c.args.at + 1) h) c.args.at event there c.args.before.now c.args.after.now c.in_ok-members.members.keys c.in_ok-members.ensures
    (λ held. let yes' = c.in_ok-held.ensures.1 held in let no' = c.if-not-held.true in cc))
