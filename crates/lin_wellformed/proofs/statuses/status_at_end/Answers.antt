use Rattle.std.proofs.Common.{◌-◌, length, inl, refl, arith}
use Rattle.std.proofs.lemmas.Option.{slice_get_read}
use Rattle.std.proofs.lemmas.Option.{slice_get_within}
use Rattle.lin_wellformed.proofs.StatusLemmas.{none_more, status_here}
use Rattle.lin_wellformed.proofs.statuses.status_at_end.Goals as goal

pub loop-at-init : goal.loop-at-init
loop-at-init c = λ k past of_it. let inside = slice_get_within c.args.events.now k of_it.0 of_it.1 in omega arith

pub returns-then-event-process : goal.returns-then-event-process
returns-then-event-process c =
    let h = c.args.events.now in
    let at = c.loop-at.at - 1 in
    let stands = slice_get_read h (length h) at c.index-events-at.result refl (omega arith) c.index-events-at.is in
    status_here h c.args.process at c.index-events-at.result c.status_after.result stands c.if-event-process.true c.status_after.ensures
    (λ k past of_it. c.loop-at.invariant k (omega arith) of_it)

pub loop-at-preserved : goal.loop-at-preserved
loop-at-preserved c =
    let h = c.args.events.now in
    let at = c.loop-at.at - 1 in
    let stands = slice_get_read h (length h) at c.index-events-at.result refl (omega arith) c.index-events-at.is in
    none_more h c.args.process at c.index-events-at.result stands c.if-event-process.false
    (λ k past of_it. c.loop-at.invariant k (omega arith) of_it)

pub returns : goal.returns
returns c = inl (λ k of_it. c.loop-at.invariant k (omega arith) of_it, refl)
