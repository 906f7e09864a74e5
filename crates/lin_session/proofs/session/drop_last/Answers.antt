use Rattle.std.proofs.Common.{◌-◌, subst, sym, ◌∙◌, arith}
use Rattle.std.specs.Prelude.{remove}
use Rattle.lin_session.specs.Objects.{AreRight}
use Rattle.lin_lists.specs.lemmas.Taken.{removed_last}
use Rattle.std.proofs.Common.{◌≡◌, length}
use Rattle.lin_order.specs.Orders.{is_of_key}
use Rattle.lin_session.specs.inner.Objects.{marks_in}
use Rattle.lin_session.specs.Known.{count_before}
use Rattle.lin_session.specs.Leaving.{IsTouched}
use Rattle.lin_session.proofs.session.drop_last.Goals as goal

pub returns-clause-right : goal.returns-clause-right
returns-clause-right c = λ kinds budget kept.
    let h = c.args.events.now.items in
    let last = c.len-last.result - 1 in
    subst (AreRight c.leave.new.self kinds budget) (removed_last h last (omega (arith, c.args.events.now.ok.0, c.len-last.ensures)) ∙ sym c.truncate.ensures.items)
    (subst (λ l. AreRight c.leave.new.self kinds budget (remove l last)) c.deref.ensures.value (c.leave.ensures.right kinds budget (subst (AreRight c.args.objects.now kinds budget) (sym c.deref.ensures.value) kept)))

pub returns-clause-marks : goal.returns-clause-marks
returns-clause-marks c = λ kinds budget kept x.
    let h = c.args.events.now.items in
    let old = marks_in c.args.objects.now x in
    let new = marks_in c.leave.new.self x in
    let last : c.len-last.result - 1 ≡ length h - 1 = omega (arith, c.args.events.now.ok.0, c.len-last.ensures) in
    let touch = c.leave.ensures.marks kinds budget (subst (AreRight c.args.objects.now kinds budget) (sym c.deref.ensures.value) kept) x in
    subst (λ at. IsTouched (is_of_key h x at) (count_before h x at) old new) last
    (subst (λ l. IsTouched (is_of_key l x (c.len-last.result - 1)) (count_before l x (c.len-last.result - 1)) old new) c.deref.ensures.value touch)
