use Rattle.std.proofs.Common.{◌++◌, ◌∷◌, [], None, List, Option, arith, refl, ap, subst, ◌∙◌}
use Rattle.lin_events.specs.declared.calls.Call.TheVariants.{Add}
use Rattle.lin_events.specs.declared.items.Item.{Item}
use Rattle.lin_sets.specs.declared.changes.Change.{Change}
use Rattle.lin_sets.specs.declared.changes.Change.TheVariants.{Ended}
use Rattle.lin_sets.specs.Steps.{ReturnsNext}
use Rattle.lin_sets.proofs.Whole.{returned_add}
use Rattle.lin_sets.proofs.Same.{learning_refused, room_made, same_levels}
use Rattle.lin_sets.proofs.Forgetting.{on_err}
use Rattle.lin_sets.proofs.Refusing.{no_invocation, odd}
use Rattle.lin_sets.proofs.intervals.Intervals.end_add.Goals as goal

pub returns-in_default-clause-conflict : goal.returns-in_default-clause-conflict
returns-in_default-clause-conflict c = λ _ h event at returns all. odd c.args.self.now h event all (no_invocation returns.1.1) at (Add c.args.item) c.args.reply.now returns c.in_default.not-Done

pub returns-clause-goes_on : goal.returns-clause-goes_on
returns-clause-goes_on c = λ _ h event at may returns all.
    let old = c.args.self.now in
    returned_add old h event may all at c.args.item (subst (ReturnsNext h event at (Add c.args.item)) c.in-Done.is returns) _ _ _ c.len.result
    (c.push_reserved-2.ensures.items ∙ ap (λ (l : List Change). l ++ Ended ∷ []) c.reserve-2.ensures.items)
    (omega (arith, c.len.ensures, old.adds.ok.0, c.reserve.ensures.len)) (c.push_reserved.ensures.items ∙ ap (λ (l : List (Option Item)). l ++ None ∷ []) c.reserve.ensures.items)
    c.in_ok-learn.ensures.learned c.in_ok-learn.ensures.listed

pub returns-in_err-reserve-clause-refused : goal.returns-in_err-reserve-clause-refused
returns-in_err-reserve-clause-refused c = on_err c.from_residual.result _ (room_made c.args.self.now _ c.args.self.now.changes c.reserve.ensures.items refl)

pub returns-in_err-reserve-2-clause-refused : goal.returns-in_err-reserve-2-clause-refused
returns-in_err-reserve-2-clause-refused c = on_err c.from_residual-in_err-reserve-2.result _ (room_made c.args.self.now _ _ c.reserve.ensures.items c.reserve-2.ensures.items)

pub returns-in_err-learn-clause-refused : goal.returns-in_err-learn-clause-refused
returns-in_err-learn-clause-refused c = on_err c.from_residual-in_err-learn.result _ (
    learning_refused c.args.self.now _ _ c.reserve.ensures.items c.reserve-2.ensures.items c.len.result (omega (arith, c.len.ensures, c.args.self.now.adds.ok.0, c.reserve.ensures.len))
    c.learn.new.self c.args.self.now.levels c.args.self.now.reads c.learn.ensures.listed (λ listed early. c.in_err-learn.ensures.same) (same_levels c.args.self.now.levels.items) refl)
