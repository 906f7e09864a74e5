use Rattle.std.proofs.Common.{sym, ap, length, subst, take, ◌∙◌}
use Rattle.std.proofs.lemmas.Result.{IfErr-weaker, IfOk-weaker}
use Rattle.lin_events.specs.WellFormed.{IsWellFormed}
use Rattle.lin_objects.specs.Kinds.{functions_of, kind_of}
use Rattle.lin_order.specs.Refutations.{IsRefutation, sets_of}
use Rattle.lin_order.specs.Parts.{part}
use Rattle.lin_answers.specs.declared.answers.Scope.TheVariants.{Object}
use Rattle.lin_answers.specs.declared.answers.Verdict.TheVariants.{No}
use Rattle.lin_answers.specs.Answers.{IsOverSomewhere, kinds_in}
use Rattle.lin_session.specs.Marks.{IsMarkedAs}
use Rattle.lin_session.specs.Objects.{AreRight}
use Rattle.lin_session.specs.Refuting.{IsUnrefuted, Refutes}
use Rattle.lin_session.specs.Sessions.{Standing}
use Rattle.lin_session.specs.Known.{mark_of}
use Rattle.lin_session.specs.inner.Objects.{marks_in}
use Rattle.lin_session.proofs.Refuting.{IsUnrefuted-fault, some_prefix}
use Rattle.lin_session.proofs.Scopes.{IsAnswer-no}
use Rattle.lin_session.proofs.session.Session.read_sets.Goals as goal
use Rattle.lin_session.proofs.session.Session.read_sets.Goals.{After-deref}

fine : (c : After-deref) → IsWellFormed (functions_of (kind_of c.self.inside.kinds)) c.self.inside.events.items
fine c = subst (λ (s : Standing). IsWellFormed (functions_of (kinds_in s.present)) s.present.history) (sym c.self.view_is) c.requires.no.1.0

kept : (c : After-deref) → AreRight c.self.inside.objects (kind_of c.self.inside.kinds) c.self.inside.budget c.deref.result.now
kept c = subst (AreRight c.self.inside.objects (kind_of c.self.inside.kinds) c.self.inside.budget) (sym c.deref.ensures.value) c.self.invariant.kept

pub refutation-requires-clause-split : goal.refutation-requires-clause-split
refutation-requires-clause-split c =
    c.self.invariant.apart (ap (λ (s : Standing). s.low) c.self.view_is ∙ c.requires.settled) (fine (goal.at.refutation-requires-clause-split c).After-deref) ∙ ap length (sym c.deref.ensures.value)

pub refutation-requires-clause-right : goal.refutation-requires-clause-right
refutation-requires-clause-right c =
    let b = (goal.at.refutation-requires-clause-right c).After-deref in
    (kind_of c.self.inside.kinds, kept b, subst (IsWellFormed (functions_of (kind_of c.self.inside.kinds))) (sym c.deref.ensures.value) (fine b))

pub returns-clause-refuted : goal.returns-clause-refuted
returns-clause-refuted c =
    let b = (goal.at.returns-clause-refuted c).After-deref in
    let K = kind_of c.self.inside.kinds in
    IfOk-weaker c.refutation.result _ _
    (λ refutation sets n verdict marked.
    let told = subst (λ l. IsMarkedAs l (Object c.args.key) (marks_in c.self.inside.objects) (No n)) (sym c.deref.ensures.value)
    (subst (λ (s : Standing). IsMarkedAs s.present.history (Object c.args.key) (mark_of s.marks) (No n)) (sym c.self.view_is) marked) in
    subst (λ (s : Standing). Refutes s.present c.args.key n (sets_of refutation)) c.self.view_is
    (subst (λ l. IsRefutation (part c.args.key (take n l)) (K c.args.key) (sets_of refutation)) c.deref.ensures.value (sets K n (kept b) (some_prefix _ _ n verdict.1) told)))
    c.refutation.ensures.refuted

pub returns-clause-unrefuted : goal.returns-clause-unrefuted
returns-clause-unrefuted c =
    let b = (goal.at.returns-clause-unrefuted c).After-deref in
    let K = kind_of c.self.inside.kinds in
    let no = c.requires.no in
    IfErr-weaker c.refutation.result _ (IsUnrefuted c.args.self.now.present c.args.key)
    (λ fault why. IsUnrefuted-fault c.args.self.now.present c.args.key no.0 (IsAnswer-no c.args.self.now.present (Object c.args.key) no.0 no.1) fault why.0
    (λ large. subst (λ (s : Standing). IsOverSomewhere (kinds_in s.present) s.present.budget s.present.history c.args.key) c.self.view_is
    (subst (λ l. IsOverSomewhere K c.self.inside.budget l c.args.key) c.deref.ensures.value (why.1 large K (kept b)))))
    c.refutation.ensures.unrefuted
