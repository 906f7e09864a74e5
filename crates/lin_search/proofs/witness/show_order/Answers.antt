use Rattle.std.proofs.Common.{◌≡◌, ◌≤◌, length, ap, arith, ◌∙◌}
use Rattle.lin_events.specs.declared.meter.Meter.{Meter}
use Rattle.lin_events.specs.Meters.{ticked}
use Rattle.lin_search.proofs.Ticks.{ticked_rising}
use Rattle.lin_search.proofs.Witnesses.{legal_as}
use Rattle.lin_search.proofs.witness.show_order.Goals as goal

pub returns-clause-legal : goal.returns-clause-legal
returns-clause-legal c =
    let checked = rw c.deref.ensures.value at c.in_ok-is_legal.ensures.legal in
    legal_as c.args.kind _ c.args.events.now c.in-Some.order.items (c.are_of.ensures c.if-not-are_of.false) (checked c.if-not-is_legal.false)

pub returns-clause-tried : goal.returns-clause-tried
returns-clause-tried c =
    let before = c.args.meter.now.tries in
    let after = c.ask_guide.new.meter.tries in
    let order = c.in-Some.order.items in
    let risen : before ≤ after = c.ask_guide.ensures.tries in
    let counted : c.is_legal_order.new.meter.tries ≡ ticked after (length order) = ap (λ (m : Meter). m.tries) c.is_legal_order.ensures.counted ∙ ap (λ l. ticked after (length l)) c.deref.ensures.value in
    let more = ticked_rising before after (length order) risen in
    omega arith
