use Rattle.std.proofs.Common.{◌++◌, ◌∷◌, [], None, List, Option, refl, ap, ◌∙◌}
use Rattle.lin_events.specs.declared.items.Item.{Item}
use Rattle.lin_sets.specs.declared.changes.Change.{Change}
use Rattle.lin_sets.specs.declared.changes.Change.TheVariants.{Ended}
use Rattle.lin_sets.proofs.Forgetting.{on_err}
use Rattle.lin_sets.proofs.Same.{room_made}
use Rattle.lin_order.specs.lemmas.Lists.{if_ok_weaker}
use Rattle.lin_sets.proofs.Whole.{crashed}
use Rattle.lin_sets.proofs.intervals.Intervals.add_event.Goals as goal

pub returns-in-Ok-clause-goes_on : goal.returns-in-Ok-clause-goes_on
returns-in-Ok-clause-goes_on c = if_ok_weaker c.end_ok.result _ _ (λ goes given so h may all. given so h c.args.event.now _ may refl c.in-Ok.is all) c.end_ok.ensures.goes_on

pub returns-in-Ok-clause-conflict : goal.returns-in-Ok-clause-conflict
returns-in-Ok-clause-conflict c = if_ok_weaker c.end_ok.result _ _ (λ goes given so h may all. given so h c.args.event.now _ may refl c.in-Ok.is all) c.end_ok.ensures.conflict

pub returns-in-Fail-clause-goes_on : goal.returns-in-Fail-clause-goes_on
returns-in-Fail-clause-goes_on c = if_ok_weaker c.end_failed.result _ _ (λ goes given so h may all. given so h c.args.event.now _ may refl c.in-Fail.is all) c.end_failed.ensures.goes_on

pub returns-in-Fail-clause-conflict : goal.returns-in-Fail-clause-conflict
returns-in-Fail-clause-conflict c = if_ok_weaker c.end_failed.result _ _ (λ goes given so h may all. given so h c.args.event.now _ may refl c.in-Fail.is all) c.end_failed.ensures.conflict

pub returns-in_ok-reserve-in-Info-2-clause-goes_on : goal.returns-in_ok-reserve-in-Info-2-clause-goes_on
returns-in_ok-reserve-in-Info-2-clause-goes_on c = λ _ h may all. crashed c.args.self.now h c.args.event.now may all _ c.in-Info.is _ _
    (c.push_reserved.ensures.items ∙ ap (λ (l : List (Option Item)). l ++ None ∷ []) c.reserve.ensures.items)
    (c.push_reserved-in-Info.ensures.items ∙ ap (λ (l : List Change). l ++ Ended ∷ []) c.reserve-in-Info.ensures.items)

pub returns-in_err-reserve-in-Info-clause-refused : goal.returns-in_err-reserve-in-Info-clause-refused
returns-in_err-reserve-in-Info-clause-refused c = on_err c.from_residual-in_err-reserve-in-Info.result _ (room_made c.args.self.now _ c.args.self.now.changes c.reserve.ensures.items refl)

pub returns-in_err-reserve-in-Info-2-clause-refused : goal.returns-in_err-reserve-in-Info-2-clause-refused
returns-in_err-reserve-in-Info-2-clause-refused c = on_err c.from_residual-in_err-reserve-in-Info-2.result _ (room_made c.args.self.now _ _ c.reserve.ensures.items c.reserve-in-Info.ensures.items)
