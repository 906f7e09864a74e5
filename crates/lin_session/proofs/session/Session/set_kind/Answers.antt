use Rattle.std.proofs.Common.{sym, subst, arith}
use Rattle.std.proofs.lemmas.Option.{none-some}
use Rattle.lin_session.proofs.Before.{AgreeBefore-none}
use Rattle.lin_objects.specs.Kinds.{kind_of}
use Rattle.lin_answers.specs.declared.edits.Edit.TheVariants.{SetKind}
use Rattle.lin_session.specs.inner.Objects.{marks_in}
use Rattle.lin_session.specs.Sessions.{Standing}
use Rattle.lin_session.specs.Known.{mark_of}
use Rattle.lin_session.specs.Leaving.{IsMarkAfter}
use Rattle.lin_session.proofs.session.Session.set_kind.Goals as goal

pub invariant_of-self-2 : goal.invariant_of-self-2
invariant_of-self-2 c = record {
  few = c.self.invariant.few;
  budgeted = c.self.invariant.budgeted;
  scanned = c.cut.ensures.right _ _ _ _ c.self.invariant.scanned (AgreeBefore-none _ _ _ _);
  kept = c.rekind.ensures.right (kind_of c.self.inside.kinds) (kind_of c.set.new.self) c.self.inside.budget c.self.inside.events.items (λ x. c.in-Ok.ensures.kinds x) c.self.invariant.kept;
  taken_in = omega arith;
  apart = λ none. absurd (none-some 0 (sym none));
}

pub returns-clause-marks : goal.returns-clause-marks
returns-clause-marks c = λ x.
    let new = marks_in c.rekind.new.self in
    let touch = c.rekind.ensures.marks (kind_of c.self.inside.kinds) c.self.inside.budget c.self.inside.events.items c.self.invariant.kept in
    subst (λ (s : Standing). IsMarkAfter (SetKind c.args.key c.args.kind) s.present x (mark_of s.marks x) (new x)) c.self.view_is (touch x)
