use Rattle.std.proofs.Common.{◌≡◌, ◌≤◌, ◌+◌, length, ap, arith, ◌∙◌}
use Rattle.std.proofs.lemmas.Option.{IfSome_then}
use Rattle.std.proofs.lemmas.Result.{IfOk-weaker}
use Rattle.lin_events.specs.Meters.{ticked}
use Rattle.lin_order.specs.Parts.{events_at}
use Rattle.lin_search.proofs.Ticks.{events_most, then_ticked}
use Rattle.lin_search.proofs.witness.show_order_of.Goals as goal

pub returns-clause-counted : goal.returns-clause-counted
returns-clause-counted c =
    let before = c.args.meter.now.steps in
    let picks = length c.args.picks.now in
    let own = c.as_slice.result.now in
    let same : picks + length own ≡ picks + length (events_at c.args.events.now c.args.picks.now) = ap (λ l. picks + length l) (c.as_slice.ensures.value ∙ c.in_ok-own.ensures.own) in
    IfOk-weaker c.show_order.result _ _
    (λ found checked. IfSome_then found checked (λ order counted. then_ticked before picks (length own) c.pick_events.new.meter.steps c.show_order.new.meter.steps c.in_ok-own.ensures.counted counted ∙ ap (ticked before) same))
    c.show_order.ensures.counted

pub returns-clause-steps : goal.returns-clause-steps
returns-clause-steps c =
    let first : c.pick_events.new.meter.steps ≤ c.args.meter.now.steps + length c.args.picks.now = c.pick_events.ensures.steps in
    let more : c.show_order.new.meter.steps ≤ c.pick_events.new.meter.steps + length c.as_slice.result.now = c.show_order.ensures.most in
    let same : length c.as_slice.result.now ≡ length (events_at c.args.events.now c.args.picks.now) = ap length (c.as_slice.ensures.value ∙ c.in_ok-own.ensures.own) in
    let few = events_most c.args.events.now c.args.picks.now in
    omega arith
