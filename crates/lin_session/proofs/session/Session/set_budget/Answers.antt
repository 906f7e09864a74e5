use Rattle.std.proofs.Common.{◌≡◌, length, subst, sym, rules}
use Rattle.lin_objects.specs.Kinds.{kind_of}
use Rattle.lin_answers.specs.declared.edits.Edit.TheVariants.{SetBudget}
use Rattle.lin_session.specs.inner.Objects.{marks_in}
use Rattle.lin_session.specs.Sessions.{Standing}
use Rattle.lin_session.specs.Known.{mark_of}
use Rattle.lin_session.specs.Leaving.{IsMarkAfter}
use Rattle.lin_session.proofs.session.Session.set_budget.Goals as goal

pub invariant_of-self : goal.invariant_of-self
invariant_of-self c = record {
  few = c.self.invariant.few;
  budgeted = search rules;
  scanned = c.self.invariant.scanned;
  taken_in = c.self.invariant.taken_in;
  kept = c.rebudget.ensures.right (kind_of c.self.inside.kinds) c.self.inside.events.items c.self.invariant.kept;
  apart = λ none fine. subst (λ n. n ≡ length c.self.inside.events.items) (sym c.rebudget.ensures.split) (c.self.invariant.apart none fine);
}

pub returns-clause-marks : goal.returns-clause-marks
returns-clause-marks c = λ x.
    let K = kind_of c.self.inside.kinds in
    let change = c.rebudget.ensures.marks K c.self.inside.events.items c.self.invariant.kept x in
    subst (λ (s : Standing). IsMarkAfter (SetBudget c.args.budget) s.present x (mark_of s.marks x) (marks_in c.rebudget.new.self x)) c.self.view_is change
