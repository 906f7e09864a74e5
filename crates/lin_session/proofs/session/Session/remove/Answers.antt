use Rattle.std.proofs.Common.{◌∙◌, ap, sym, subst, length, Some, arith}
use Rattle.lin_wellformed.specs.Scans.{ready_count}
use Rattle.lin_session.specs.Sessions.{AreTakenIn}
use Rattle.lin_session.specs.Leaving.{least, rounded}
use Rattle.lin_session.proofs.Low.{some_left, AreTakenIn-edit, rounded_below}
use Rattle.std.specs.Prelude.{remove}
use Rattle.lin_session.specs.Objects.{AreRight}
use Rattle.std.proofs.Common.{arith, sym, subst}
use Rattle.lin_session.proofs.Before.{AgreeBefore-events, take-removed}
use Rattle.lin_objects.specs.Kinds.{kind_of}
use Rattle.lin_answers.specs.declared.edits.Edit.TheVariants.{Remove}
use Rattle.lin_session.specs.inner.Objects.{marks_in}
use Rattle.lin_session.specs.Sessions.{Standing}
use Rattle.lin_session.specs.Known.{count_before, mark_of}
use Rattle.lin_session.specs.Leaving.{IsMarkAfter, IsTouched}
use Rattle.lin_order.specs.Orders.{is_of_key}
use Rattle.lin_session.proofs.session.Session.remove.Goals as goal

pub invariant_of-self : goal.invariant_of-self
invariant_of-self c = record {
  few = omega (arith, c.self.invariant.few, c.remove.ensures.len, c.remove.new.self.ok.0, c.self.inside.events.ok.0);
  budgeted = c.self.invariant.budgeted;
  scanned = c.cut.ensures.right _ _ _ _ c.self.invariant.scanned (AgreeBefore-events _ _ _ _ (rw c.remove.ensures.items (take-removed c.args.at c.self.inside.events.items (omega (arith, c.self.inside.events.ok.0, c.len.ensures)))));
  kept = subst (AreRight c.leave.new.self (kind_of c.self.inside.kinds) c.self.inside.budget) (sym c.remove.ensures.items)
      (subst (λ l. AreRight c.leave.new.self (kind_of c.self.inside.kinds) c.self.inside.budget (remove l c.args.at)) c.deref.ensures.value
      (c.leave.ensures.right (kind_of c.self.inside.kinds) c.self.inside.budget (subst (AreRight c.self.inside.objects (kind_of c.self.inside.kinds) c.self.inside.budget) (sym c.deref.ensures.value) c.self.invariant.kept)));
  taken_in = subst (λ low. AreTakenIn low (ready_count c.cut.new.self) (length c.remove.new.self.items)) (sym (c.least_of-self-inside.ensures ∙ ap (λ n. least c.self.inside.low (Some n)) c.round_down.ensures))
      (AreTakenIn-edit c.self.inside.low (rounded c.args.at) c.args.at (ready_count c.self.inside.scan) (ready_count c.cut.new.self) (length c.self.inside.events.items) (length c.remove.new.self.items) (rounded_below c.args.at) (omega (arith, c.if-at-len.false, c.len.ensures, c.self.inside.events.ok.0)) c.cut.ensures.back c.self.invariant.taken_in);
  apart = λ none. absurd (some_left c.self.inside.low _ (sym c.least_of-self-inside.ensures ∙ none));
}

pub returns-clause-marks : goal.returns-clause-marks
returns-clause-marks c = λ x.
    let K = kind_of c.self.inside.kinds in
    let old = marks_in c.self.inside.objects x in
    let new = marks_in c.leave.new.self x in
    let there = c.deref.ensures.value in
    let touch = c.leave.ensures.marks K c.self.inside.budget (subst (AreRight c.self.inside.objects K c.self.inside.budget) (sym there) c.self.invariant.kept) x in
    subst (λ (s : Standing). IsMarkAfter (Remove c.args.at) s.present x (mark_of s.marks x) new) c.self.view_is
    (subst (λ l. IsTouched (is_of_key l x c.args.at) (count_before l x c.args.at) old new) there touch)
