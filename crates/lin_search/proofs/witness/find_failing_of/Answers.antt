use Rattle.std.proofs.Common.{◌≡◌, ◌≤◌, ◌+◌, ◌*◌, List, length, ap, arith, sym, subst, ◌∙◌}
use Rattle.lin_events.specs.declared.events.Event.{Event}
use Rattle.lin_events.specs.WellFormed.{IsWellFormed}
use Rattle.std.proofs.lemmas.Option.{IfSome_then}
use Rattle.std.proofs.lemmas.Result.{IfOk-weaker}
use Rattle.lin_order.specs.Parts.{events_at}
use Rattle.lin_search.proofs.Ticks.{events_most, then_ticked}
use Rattle.lin_search.proofs.witness.find_failing_of.Goals as goal

pub returns-clause-counted : goal.returns-clause-counted
returns-clause-counted c =
    IfOk-weaker c.find_failing.result _ _
    (λ found checked. IfSome_then found checked (λ at counted. then_ticked c.args.meter.now.steps (length c.args.picks.now) (3 * at + 1) c.pick_events.new.meter.steps c.find_failing.new.meter.steps c.in_ok-own.ensures.counted counted))
    c.find_failing.ensures.counted

pub returns-clause-steps : goal.returns-clause-steps
returns-clause-steps c =
    let first : c.pick_events.new.meter.steps ≤ c.args.meter.now.steps + length c.args.picks.now = c.pick_events.ensures.steps in
    let more : c.find_failing.new.meter.steps ≤ c.pick_events.new.meter.steps + 3 * length c.as_slice.result.now = c.find_failing.ensures.most in
    let same : length c.as_slice.result.now ≡ length (events_at c.args.events.now c.args.picks.now) = ap length (c.as_slice.ensures.value ∙ c.in_ok-own.ensures.own) in
    let few = events_most c.args.events.now c.args.picks.now in
    omega arith

pub returns-clause-dead : goal.returns-clause-dead
returns-clause-dead c functions formed =
    let same : c.as_slice.result.now ≡ events_at c.args.events.now c.args.picks.now = c.as_slice.ensures.value ∙ c.in_ok-own.ensures.own in
    rw same at (c.find_failing.ensures.dead functions (subst (λ (h : List Event). IsWellFormed functions h) (sym same) formed))
