use Rattle.std.proofs.Common.{◌≡◌, ◌≤◌, ap, arith, length}
use Rattle.lin_events.specs.declared.meter.Meter.{Meter}
use Rattle.lin_events.specs.Meters.{ticked}
use Rattle.lin_search.proofs.Ticks.{ticked_more}
use Rattle.lin_search.proofs.depth_first.depth_first_order.Goals as goal

pub returns-in-Some-clause-placed : goal.returns-in-Some-clause-placed
returns-in-Some-clause-placed c =
    let before = c.args.meter.now.tries in
    let count = c.max.result in
    let placed = length c.in-Some.order.items in
    let less : placed ≤ count = grind arith in
    let counted : c.tick_tries.new.meter.tries ≡ ticked before count = ap (λ (m : Meter). m.tries) c.tick_tries.ensures.counted in
    let risen : before ≤ c.tick_tries.new.meter.tries = c.tick_tries.ensures.risen in
    let least : before ≤ ticked before count = rw counted at risen in
    let more = ticked_more before placed count least less in
    omega arith
