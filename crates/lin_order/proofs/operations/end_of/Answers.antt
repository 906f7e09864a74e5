use Rattle.std.proofs.Common.{◌<◌, length, sym, ap, ◌∙◌, refl, rules, Some}
use Rattle.std.proofs.lemmas.Option.{slice_get_read}
use Rattle.lin_events.specs.declared.events.Event.{Event}
use Rattle.lin_order.specs.lemmas.Lists.{none_if}
use Rattle.lin_order.specs.lemmas.OneEnd.{end_from_next, no_end, no_end_of}
use Rattle.lin_order.proofs.Latest.{next_of, next_inside, last_of}
use Rattle.lin_order.proofs.operations.end_of.Goals as goal

pub bounds-events-end : goal.bounds-events-end
bounds-events-end c = next_inside c.args.events.now c.args.ends.now c.requires.table c.args.at c.requires.within c.in-Some.end c.in-Some.is

pub offset_bounds-events-end : goal.offset_bounds-events-end
offset_bounds-events-end c =
    let inside : c.in-Some.end < length c.args.events.now =
    next_inside c.args.events.now c.args.ends.now c.requires.table c.args.at c.requires.within c.in-Some.end c.in-Some.is in
    search rules

pub returns : goal.returns
returns c =
    let h = c.args.events.now in
    let at = c.args.at in
    let end = c.in-Some.end in
    let next = next_of h c.args.ends.now c.requires.table at c.requires.within end c.in-Some.is in
    let inside = next_inside h c.args.ends.now c.requires.table at c.requires.within end c.in-Some.is in
    let event = c.index-events-at.result in
    let begins = slice_get_read h _ at event refl c.requires.within c.index-events-at.is in
    let ends = slice_get_read h _ end c.index-events-end.result refl inside c.index-events-end.is in
    let body = ap (λ (e : Event). e.body) c.index-events-at.is ∙ c.in-Invoke.is in
    end_from_next h at event.process event.key c.in-Invoke.field-0 (begins ∙ ap (λ b. Some (record event { body = b })) body) end c.index-events-end.result next ends

pub returns-in_default-ends : goal.returns-in_default-ends
returns-in_default-ends c end ending =
    let none = none_if _ c.in_default-ends.not-Some in
    no_end c.args.events.now c.args.at (last_of c.args.events.now c.args.ends.now c.requires.table c.args.at c.requires.within none) end ending

pub returns-in_default : goal.returns-in_default
returns-in_default c end ending =
    let event = c.index-events-at.result in
    let there = slice_get_read c.args.events.now _ c.args.at event refl c.requires.within c.index-events-at.is in
    no_end_of c.args.events.now c.args.at event there (λ call is. c.in_default.not-Invoke call (ap (λ (e : Event). e.body) (sym c.index-events-at.is) ∙ is)) end ending
