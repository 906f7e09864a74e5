use Rattle.std.proofs.Common.{◌≡◌, ◌≤◌, ◌+◌, length, ap, sym, arith, ◌∙◌}
use Rattle.std.proofs.lemmas.Option.{IfSome_then}
use Rattle.std.proofs.lemmas.Result.{IfOk-weaker}
use Rattle.lin_events.specs.declared.meter.Meter.{Meter}
use Rattle.lin_events.specs.Meters.{ticked}
use Rattle.lin_order.specs.Parts.{events_at}
use Rattle.lin_search.proofs.Ticks.{events_most, then_ticked}
use Rattle.lin_search.proofs.witness.show_order_of_all.Goals as goal

pub returns-clause-counted : goal.returns-clause-counted
returns-clause-counted c =
    let before = c.args.meter.now.steps in
    let picks = length c.args.picks.now in
    let all = length c.args.events.now in
    let mid = c.tick_steps.new.meter.steps in
    let first : mid ≡ ticked before picks = ap (λ (m : Meter). m.steps) c.tick_steps.ensures.counted in
    let same : picks + all ≡ picks + length (events_at c.args.events.now c.args.picks.now) = ap (λ l. picks + length l) (sym c.requires.all) in
    IfOk-weaker c.show_order.result _ _
    (λ found checked. IfSome_then found checked (λ order counted. then_ticked before picks all mid c.show_order.new.meter.steps first counted ∙ ap (ticked before) same))
    c.show_order.ensures.counted

pub returns-clause-steps : goal.returns-clause-steps
returns-clause-steps c =
    let first : c.tick_steps.new.meter.steps ≤ c.args.meter.now.steps + length c.args.picks.now = c.tick_steps.ensures.most in
    let more : c.show_order.new.meter.steps ≤ c.tick_steps.new.meter.steps + length c.args.events.now = c.show_order.ensures.most in
    let same : length (events_at c.args.events.now c.args.picks.now) ≡ length c.args.events.now = ap length c.requires.all in
    let few = events_most c.args.events.now c.args.picks.now in
    omega arith
