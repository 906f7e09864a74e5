use Rattle.std.proofs.Common.{◌++◌, ◌∷◌, [], None, List, Option, refl, sym, ap, subst, ◌∙◌}
use Rattle.lin_events.specs.declared.items.Item.{Item}
use Rattle.lin_sets.specs.declared.changes.Change.{Change}
use Rattle.lin_sets.specs.declared.changes.Change.TheVariants.{Ended}
use Rattle.lin_sets.proofs.Forgetting.{on_err}
use Rattle.lin_sets.proofs.Same.{room_made}
use Rattle.lin_order.specs.lemmas.Completing.{fail_completes}
use Rattle.lin_order.specs.lemmas.Lists.{if_ok_weaker}
use Rattle.lin_sets.specs.Steps.{EndsNext}
use Rattle.lin_sets.proofs.Whole.{ends_opened, opened_there, failed_other}
use Rattle.lin_sets.proofs.intervals.Intervals.end_failed.Goals as goal

pub returns-in_default-clause-goes_on : goal.returns-in_default-clause-goes_on
returns-in_default-clause-goes_on c = λ _ h event name may process is all.
    absurd (opened_there c.args.self.now h event may all c.args.process name process (fail_completes event.body name is) c.get.result c.get.ensures c.in_default.not-Some)

pub returns-in-Add-clause-goes_on : goal.returns-in-Add-clause-goes_on
returns-in-Add-clause-goes_on c = if_ok_weaker c.retract.result _ _ (λ goes given so h event name may process is all.
    let ends = ends_opened c.args.self.now h event may all c.args.process name process (fail_completes event.body name is) c.in-Some.opened (sym c.in-Some.ensures) in
    given so h event may (subst (EndsNext h event c.in-Some.opened.at) c.in-Add.is ends, (name, is)) all) c.retract.ensures.goes_on

pub returns-in-Add-clause-conflict : goal.returns-in-Add-clause-conflict
returns-in-Add-clause-conflict c = if_ok_weaker c.retract.result _ _ (λ goes given so h event name may process is all.
    let ends = ends_opened c.args.self.now h event may all c.args.process name process (fail_completes event.body name is) c.in-Some.opened (sym c.in-Some.ensures) in
    given so h event (subst (EndsNext h event c.in-Some.opened.at) c.in-Add.is ends, (name, is)) all) c.retract.ensures.conflict

pub returns-in_ok-reserve-in_default-call-2-clause-goes_on : goal.returns-in_ok-reserve-in_default-call-2-clause-goes_on
returns-in_ok-reserve-in_default-call-2-clause-goes_on c = λ _ h event name may process is all.
    let ends = ends_opened c.args.self.now h event may all c.args.process name process (fail_completes event.body name is) c.in-Some.opened (sym c.in-Some.ensures) in
    failed_other c.args.self.now h event may all c.in-Some.opened.at c.in-Some.opened.call (ends, (name, is)) c.in_default-call.not-Add _ _
    (c.push_reserved.ensures.items ∙ ap (λ (l : List (Option Item)). l ++ None ∷ []) c.reserve.ensures.items)
    (c.push_reserved-in_default-call.ensures.items ∙ ap (λ (l : List Change). l ++ Ended ∷ []) c.reserve-in_default-call.ensures.items)

pub returns-in_err-reserve-in_default-call-clause-refused : goal.returns-in_err-reserve-in_default-call-clause-refused
returns-in_err-reserve-in_default-call-clause-refused c = on_err c.from_residual.result _ (room_made c.args.self.now _ c.args.self.now.changes c.reserve.ensures.items refl)

pub returns-in_err-reserve-in_default-call-2-clause-refused : goal.returns-in_err-reserve-in_default-call-2-clause-refused
returns-in_err-reserve-in_default-call-2-clause-refused c =
    on_err c.from_residual-in_err-reserve-in_default-call-2.result _ (room_made c.args.self.now _ _ c.reserve.ensures.items c.reserve-in_default-call.ensures.items)
