use Rattle.std.proofs.Common.{sym, refl}
use Rattle.std.proofs.lemmas.Bool.Decides.{Decides-ltb}
use Rattle.std.proofs.lemmas.Option.{slice_get_read}
use Rattle.lin_order.specs.lemmas.OneEnd.{call_since, no_call}
use Rattle.lin_order.proofs.operations.call_at.Goals as goal

pub returns-in-Invoke : goal.returns-in-Invoke
returns-in-Invoke c =
    let event = c.in-Some.event.now in
    let found = c.in-Some.ensures.lookup in
    let there = slice_get_read c.args.events.now _ c.args.at event refl ((Decides-ltb c.args.at _).0 (sym found.0)) found.1 in
    let on = call_since c.args.events.now c.args.at event there c.in-Invoke.call c.in-Invoke.is in
    (on.0, event.key, on.1)

pub returns-in_default-body : goal.returns-in_default-body
returns-in_default-body c =
    let event = c.in-Some.event.now in
    let found = c.in-Some.ensures.lookup in
    let there = slice_get_read c.args.events.now _ c.args.at event refl ((Decides-ltb c.args.at _).0 (sym found.0)) found.1 in
    no_call c.args.events.now c.args.at event there c.in_default-body.not-Invoke
