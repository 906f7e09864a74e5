use Rattle.std.proofs.Common.{◌∙◌, ap, sym, subst, length, Some, arith}
use Rattle.lin_wellformed.specs.Scans.{ready_count}
use Rattle.lin_session.specs.Sessions.{AreTakenIn}
use Rattle.lin_session.specs.Leaving.{least, rounded}
use Rattle.lin_session.proofs.Low.{some_left, AreTakenIn-edit, rounded_below}
use Rattle.std.proofs.Common.{arith}
use Rattle.std.proofs.lemmas.List.{length-take}
use Rattle.lin_session.proofs.Before.{AgreeBefore-events, take-truncated}
use Rattle.lin_objects.specs.Kinds.{kind_of}
use Rattle.lin_answers.specs.declared.edits.Edit.TheVariants.{Truncate}
use Rattle.lin_session.specs.inner.Objects.{marks_in}
use Rattle.lin_session.specs.Sessions.{Standing}
use Rattle.lin_session.specs.Known.{mark_of}
use Rattle.lin_session.specs.Leaving.{IsMarkAfter}
use Rattle.lin_session.proofs.session.Session.truncate.Goals as goal

pub invariant_of-self : goal.invariant_of-self
invariant_of-self c = record {
  few = rw c.cut_back.ensures.left (omega (arith, c.self.invariant.few, length-take c.args.count c.self.inside.events.items));
  budgeted = c.self.invariant.budgeted;
  scanned = c.cut.ensures.right _ _ _ _ c.self.invariant.scanned (AgreeBefore-events _ _ _ _ (rw c.cut_back.ensures.left (take-truncated c.args.count c.self.inside.events.items)));
  kept = c.cut_back.ensures.right (kind_of c.self.inside.kinds) c.self.inside.budget c.self.invariant.kept;
  taken_in = subst (λ low. AreTakenIn low (ready_count c.cut.new.self) (length c.cut_back.new.events.items)) (sym (c.least_of-self-inside.ensures ∙ ap (λ n. least c.self.inside.low (Some n)) c.round_down.ensures))
      (AreTakenIn-edit c.self.inside.low (rounded c.args.count) c.args.count (ready_count c.self.inside.scan) (ready_count c.cut.new.self) (length c.self.inside.events.items) (length c.cut_back.new.events.items) (rounded_below c.args.count) (omega (arith, c.if-count-len.false, c.len.ensures, c.self.inside.events.ok.0)) c.cut.ensures.back c.self.invariant.taken_in);
  apart = λ none. absurd (some_left c.self.inside.low _ (sym c.least_of-self-inside.ensures ∙ none));
}

pub returns-clause-marks : goal.returns-clause-marks
returns-clause-marks c = λ x.
    subst (λ (s : Standing). IsMarkAfter (Truncate c.args.count) s.present x (mark_of s.marks x) (marks_in c.cut_back.new.objects x)) c.self.view_is
    (c.cut_back.ensures.marks (kind_of c.self.inside.kinds) c.self.inside.budget c.self.invariant.kept x)
