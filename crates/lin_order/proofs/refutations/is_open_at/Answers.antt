use Rattle.std.proofs.Common.{◌∙◌, refl, ap, Some, take}
use Rattle.std.proofs.lemmas.Option.{slice_get_read}
use Rattle.lin_events.specs.declared.events.Event.{Event}
use Rattle.lin_order.specs.inner.Checking.{IsOpenAt, IsReturning}
use Rattle.lin_order.specs.lemmas.Lists.{yes_since}
use Rattle.lin_order.proofs.Opening.{never_ended, ended_past, ended_open, ended_not, not_iff}
use Rattle.lin_order.proofs.refutations.is_open_at.Goals as goal

pub returns-then-n-end : goal.returns-then-n-end
returns-then-n-end c = yes_since (ended_past c.args.events.now c.args.at c.args.n c.requires.before c.in-Some.end c.in-Some.ending.now c.in-Some.ensures c.if-n-end.true)

pub returns : goal.returns
returns c =
    not_iff c.is_return.result (IsReturning c.in-Some.ending.now.body) (IsOpenAt (take c.args.n c.args.events.now) c.args.at) c.is_return.ensures
    (ended_open c.args.events.now c.args.at c.args.n c.requires.before c.in-Some.end c.in-Some.ending.now c.in-Some.ensures)
    (ended_not c.args.events.now c.args.at c.args.n c.requires.before c.in-Some.end c.in-Some.ending.now c.in-Some.ensures c.if-n-end.false)

pub returns-in_default-end_of : goal.returns-in_default-end_of
returns-in_default-end_of c =
    let event = c.index-events-at.result in
    let there = slice_get_read c.args.events.now _ c.args.at event refl c.requires.within c.index-events-at.is in
    let body = ap (λ (e : Event). e.body) c.index-events-at.is ∙ c.in-Invoke.is in
    yes_since (never_ended c.args.events.now c.args.at c.args.n c.requires.before event.process event.key c.in-Invoke.field-0 (there ∙ ap (λ b. Some (record event { body = b })) body) c.in_default-end_of.ensures)
