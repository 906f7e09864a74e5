use Rattle.std.proofs.Common.{◌∷◌, [], None, List, Option, set, length, length-append, ◌<◌, arith, refl, sym, ap, subst, ◌∙◌}
use Rattle.lin_events.specs.declared.items.Item.{Item}
use Rattle.lin_sets.proofs.Forgetting.{on_err}
use Rattle.lin_sets.specs.Intervals.{IsAsBefore}
use Rattle.lin_sets.proofs.Same.{room_made}
use Rattle.lin_sets.proofs.Whole.{retracted, stood_call}
use Rattle.lin_sets.proofs.Refusing.{no_invocation_failed, may_not}
use Rattle.lin_sets.proofs.intervals.Intervals.retract.Goals as goal

pub returns-in_err-reserve-clause-refused : goal.returns-in_err-reserve-clause-refused
returns-in_err-reserve-clause-refused c = on_err c.from_residual.result _ (room_made c.args.self.now _ c.args.self.now.changes c.reserve.ensures.items refl)

pub returns-in_err-reserve-2-clause-refused : goal.returns-in_err-reserve-2-clause-refused
returns-in_err-reserve-2-clause-refused c = on_err c.from_residual-in_err-reserve-2.result _ (room_made c.args.self.now _ _ c.reserve.ensures.items c.reserve-2.ensures.items)

pub returns-then-not-put_next-clause-conflict : goal.returns-then-not-put_next-clause-conflict
returns-then-not-put_next-clause-conflict c = λ _ h event fails all.
    let old = c.args.self.now in
    let roomy = record old { adds = c.reserve.new.self; changes = c.reserve-2.new.self } in
    let told = (room_made old c.reserve.new.self c.reserve-2.new.self c.reserve.ensures.items c.reserve-2.ensures.items).1 h all in
    let stuck = c.put_next.ensures.refused c.if-not-put_next.true in
    may_not roomy h event told (no_invocation_failed fails.1.1) c.args.at c.args.item fails stuck.1.0 stuck.0 stuck.1.1 (stuck.1.2 told.listed)

pub returns-then-not-put_next-clause-stays : goal.returns-then-not-put_next-clause-stays
returns-then-not-put_next-clause-stays c = λ _.
    let old = c.args.self.now in
    subst (IsAsBefore old) (sym (c.put_next.ensures.stays c.if-not-put_next.true)) (room_made old c.reserve.new.self c.reserve-2.new.self c.reserve.ensures.items c.reserve-2.ensures.items)

pub returns-clause-goes_on : goal.returns-clause-goes_on
returns-clause-goes_on c = λ _ h event may fails all.
    let old = c.args.self.now in
    let roomy = record old { adds = c.reserve.new.self; changes = c.reserve-2.new.self } in
    let told = (room_made old c.reserve.new.self c.reserve-2.new.self c.reserve.ensures.items c.reserve-2.ensures.items).1 h all in
    let moved = c.put_next.new.self in
    retracted roomy h event may told c.args.at c.args.item fails moved (record moved { adds = c.clear.new.adds }) c.push_reserved-2.new.self c.put_next.ensures.others refl
    (c.put_next.ensures.moved c.if-not-put_next.false (told.noted c.args.at c.args.item (stood_call h event c.args.at c.args.item fails)))
    (λ below. c.clear.ensures (subst (λ (l : List (Option Item)). c.args.at < length l) (sym c.push_reserved.ensures.items) (omega (arith, below, length-append moved.adds.items (None ∷ []))))
    ∙ ap (λ (l : List (Option Item)). set l c.args.at None) c.push_reserved.ensures.items) c.push_reserved-2.ensures.items
