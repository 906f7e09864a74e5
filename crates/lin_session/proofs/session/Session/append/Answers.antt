use Rattle.std.proofs.Common.{◌≡◌, ◌++◌, ◌∷◌, [], ◌∙◌, ap, sym, subst, refl, length, Some, min, arith}
use Rattle.lin_wellformed.specs.Scans.{ready_count}
use Rattle.lin_session.specs.Sessions.{AreTakenIn}
use Rattle.lin_session.specs.Leaving.{least}
use Rattle.lin_session.proofs.Low.{some_left, AreTakenIn-edit}
use Rattle.lin_session.specs.Objects.{AreRight}
use Rattle.std.proofs.lemmas.List.{length_push}
use Rattle.lin_session.proofs.Before.{AgreeBefore-events, take-appended}
use Rattle.lin_objects.specs.Kinds.{kind_of}
use Rattle.lin_answers.specs.declared.edits.Edit.TheVariants.{Append}
use Rattle.lin_session.specs.inner.Objects.{marks_in}
use Rattle.lin_session.specs.Sessions.{Standing}
use Rattle.lin_session.specs.Known.{mark_of}
use Rattle.lin_session.specs.Leaving.{IsMarkAfter}
use Rattle.lin_session.proofs.session.Session.append.Goals as goal

pub invariant_of-self-2 : goal.invariant_of-self-2
invariant_of-self-2 c = record {
  few = rw c.push_reserved.ensures.items (rw (length_push c.reserve.new.self.items c.args.event) (omega (arith, c.self.invariant.few, c.reserve.new.self.ok.0)));
  budgeted = c.self.invariant.budgeted;
  scanned =
      let at_end : c.len-2.result ≡ length c.self.inside.events.items = rw (← c.reserve.ensures.items) (omega (arith, c.len-2.ensures, c.reserve.new.self.ok.0)) in
      rw c.push_reserved.ensures.items (c.cut.ensures.right _ _ _ _ c.self.invariant.scanned (AgreeBefore-events _ _ _ _ (rw c.reserve.ensures.items (take-appended _ c.self.inside.events.items c.args.event at_end))));
  kept =
      let h = c.self.inside.events.items in
      let came : AreRight c.put_last.new.self (kind_of c.self.inside.kinds) c.self.inside.budget (h ++ c.args.event ∷ []) =
      c.put_last.ensures.right (kind_of c.self.inside.kinds) c.self.inside.budget h c.args.event refl (omega (arith, c.self.invariant.few)) c.self.invariant.kept in
      subst (AreRight c.put_last.new.self (kind_of c.self.inside.kinds) c.self.inside.budget) (sym (c.push_reserved.ensures.items ∙ ap (λ l. l ++ c.args.event ∷ []) c.reserve.ensures.items)) came;
  taken_in =
      let at_end : c.len-2.result ≡ length c.self.inside.events.items = rw (← c.reserve.ensures.items) (omega (arith, c.len-2.ensures, c.reserve.new.self.ok.0)) in
      let at_end_too : c.len-3.result ≡ length c.self.inside.events.items = rw (← c.reserve.ensures.items) (omega (arith, c.len-3.ensures, c.reserve.new.self.ok.0)) in
      subst (λ low. AreTakenIn low (ready_count c.cut.new.self) (length c.push_reserved.new.self.items)) (sym (c.least_of-self-inside.ensures ∙ ap (λ n. least c.self.inside.low (Some n)) at_end_too))
      (AreTakenIn-edit c.self.inside.low (length c.self.inside.events.items) (length c.self.inside.events.items) (ready_count c.self.inside.scan) (ready_count c.cut.new.self) (length c.self.inside.events.items)
      (length c.push_reserved.new.self.items) (omega arith) (omega arith) (c.cut.ensures.back ∙ ap (λ n. min n (ready_count c.self.inside.scan)) at_end) c.self.invariant.taken_in);
  apart = λ none. absurd (some_left c.self.inside.low _ (sym c.least_of-self-inside.ensures ∙ none));
}

pub returns-clause-marks : goal.returns-clause-marks
returns-clause-marks c = λ x.
    let touch = c.put_last.ensures.marks (kind_of c.self.inside.kinds) c.self.inside.budget c.self.inside.events.items c.self.invariant.kept in
    subst (λ (s : Standing). IsMarkAfter (Append c.args.event) s.present x (mark_of s.marks x) (marks_in c.put_last.new.self x)) c.self.view_is (touch x)
