use Rattle.std.proofs.Common.{◌≡◌, ◌≤◌, ◌+◌, ◌*◌, length, take, ap, arith, ◌∙◌}
use Rattle.std.proofs.lemmas.List.{length-take-le}
use Rattle.lin_events.specs.declared.meter.Meter.{Meter}
use Rattle.lin_events.specs.Meters.{ticked}
use Rattle.lin_search.proofs.Ticks.{then_ticked}
use Rattle.lin_search.proofs.witness.find_failing.Goals as goal

pub returns-clause-counted : goal.returns-clause-counted
returns-clause-counted c =
    let before = c.args.meter.now.steps in
    let refuted = c.find_refuted.new.meter.steps in
    let sought = c.tick_steps.new.meter.steps in
    let checked = c.show_order.new.meter.steps in
    let at = c.in-Some.at in
    let first : refuted ≡ ticked before (at + 1) = rw c.in-Some.is at c.in_ok-at.ensures.counted in
    let second : sought ≡ ticked refuted at = ap (λ (m : Meter). m.steps) c.tick_steps.ensures.counted in
    let third : checked ≡ ticked sought (length (take at c.args.events.now)) = rw c.in-Some-2.is at c.in_ok-show_order.ensures.counted in
    let inside = rw c.in-Some.is at c.in_ok-at.ensures.inside in
    let within : at ≤ length c.args.events.now = omega (arith, inside) in
    let size = length-take-le at c.args.events.now within in
    let both = then_ticked before (at + 1) at refuted sought first second in
    let total : (at + 1 + at) + at ≡ 3 * at + 1 = omega arith in
    then_ticked before (at + 1 + at) at sought checked both (third ∙ ap (ticked sought) size) ∙ ap (ticked before) total
