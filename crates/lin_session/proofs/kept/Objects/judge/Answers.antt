use Rattle.std.proofs.Common.{◌≤◌, ◌+◌, sym, subst}
use Rattle.std.proofs.lemmas.Result.{IfOk-weaker, on_ok_weaker}
use Rattle.lin_events.specs.declared.items.Item.{Item}
use Rattle.lin_events.specs.WellFormed.{IsWellFormed}
use Rattle.lin_objects.specs.declared.kinds.Kind.{Kind}
use Rattle.lin_objects.specs.Kinds.{functions_of, kind_of}
use Rattle.lin_answers.specs.declared.answers.Scope.TheVariants as scope
use Rattle.lin_answers.specs.Answers.{IsObjectVerdict, IsWholeVerdict, IsVerdict}
use Rattle.lin_answers.specs.Edits.{Present}
use Rattle.lin_session.specs.Objects.{AreRight}
use Rattle.lin_session.specs.inner.Objects.{marks_in}
use Rattle.lin_session.specs.Marks.{AreCarriedOn, AreExact, IsMarkedAs, IsNothingDue}
use Rattle.lin_session.specs.Work.{IsSpentAtMostIn, IsSpentIn, due_in}
use Rattle.lin_session.proofs.Carrying.{AreCarriedOn-same, AreCarriedOn-since, IsNothingDue-since, IsSpentAtMostIn-since, IsSpentIn-since, due_since}
use Rattle.lin_session.proofs.Scopes.{IsVerdict-object, IsVerdict-whole}
use Rattle.lin_session.proofs.Found.{not_ok}
use Rattle.lin_session.proofs.kept.Objects.judge.Goals as goal

pub judge_object-requires-clause-right : goal.judge_object-requires-clause-right
judge_object-requires-clause-right c = (kind_of c.args.kinds.now, c.split.ensures.right c.args.budget c.requires.right, c.requires.well_formed)

pub judge_whole-requires-clause-right : goal.judge_whole-requires-clause-right
judge_whole-requires-clause-right c = (kind_of c.args.kinds.now, c.split.ensures.right c.args.budget c.requires.right, c.requires.well_formed)

pub returns-in_err-split-clause-right : goal.returns-in_err-split-clause-right
returns-in_err-split-clause-right c = c.split.ensures.right c.args.budget c.requires.right

pub returns-in_err-split-clause-ready : goal.returns-in_err-split-clause-ready
returns-in_err-split-clause-ready c = λ apart nothing. absurd (not_ok c.split.result c.in_err-split.field-0.0 c.in_err-split.was (c.split.ensures.settled apart))

pub returns-in_err-split-clause-carried : goal.returns-in_err-split-clause-carried
returns-in_err-split-clause-carried c = AreCarriedOn-same c.args.events.now c.args.scope (marks_in c.args.self.now) (marks_in c.split.new.self) c.split.ensures.marks

pub returns-in-Object-clause-right : goal.returns-in-Object-clause-right
returns-in-Object-clause-right c = c.judge_object.ensures.right (kind_of c.args.kinds.now) (c.split.ensures.right c.args.budget c.requires.right)

pub returns-in-Object-clause-verdict : goal.returns-in-Object-clause-verdict
returns-in-Object-clause-verdict c =
    let now : Present = record { history = c.args.events.now; kinds = c.args.kinds.now; budget = c.args.budget } in
    IfOk-weaker c.judge_object.result
    (λ verdict. (kinds : Item → Kind) → AreRight c.split.new.self kinds c.args.budget c.args.events.now → IsWellFormed (functions_of kinds) c.args.events.now → IsObjectVerdict kinds c.args.budget c.args.events.now c.in-Object.key verdict)
    (IsVerdict now c.args.scope)
    (λ verdict told.
    let is = told (kind_of c.args.kinds.now) (c.split.ensures.right c.args.budget c.requires.right) c.requires.well_formed in
    subst (λ s. IsVerdict now s verdict) (sym c.in-Object.is) (IsVerdict-object now c.in-Object.key verdict c.requires.well_formed is)) c.judge_object.ensures.verdict

pub returns-in-Object-clause-told : goal.returns-in-Object-clause-told
returns-in-Object-clause-told c =
    IfOk-weaker c.judge_object.result _ _ (λ verdict told. subst (λ s. IsMarkedAs c.args.events.now s (marks_in c.judge_object.new.self) verdict) (sym c.in-Object.is) told) c.judge_object.ensures.told

pub returns-in-Object-clause-decided : goal.returns-in-Object-clause-decided
returns-in-Object-clause-decided c = λ exact. c.judge_object.ensures.decided (kind_of c.args.kinds.now) (c.split.ensures.right c.args.budget c.requires.right) (subst (AreExact (kind_of c.args.kinds.now) c.args.events.now) c.in-Object.is exact)

pub returns-in-Object-clause-carried : goal.returns-in-Object-clause-carried
returns-in-Object-clause-carried c =
    subst (λ s. AreCarriedOn c.args.events.now s (marks_in c.args.self.now) (marks_in c.judge_object.new.self)) (sym c.in-Object.is)
    (AreCarriedOn-since c.args.events.now (scope.Object c.in-Object.key) (marks_in c.args.self.now) (marks_in c.split.new.self) (marks_in c.judge_object.new.self) c.split.ensures.marks c.judge_object.ensures.carried)

pub returns-in-Object-clause-known : goal.returns-in-Object-clause-known
returns-in-Object-clause-known c = on_ok_weaker c.judge_object.result (λ known. subst (λ s. IsNothingDue c.args.events.now s (marks_in c.judge_object.new.self)) (sym c.in-Object.is) known) c.judge_object.ensures.known

pub returns-in-Object-clause-spent : goal.returns-in-Object-clause-spent
returns-in-Object-clause-spent c =
    on_ok_weaker c.judge_object.result
    (λ spent. subst (λ s. IsSpentIn c.args.events.now s (marks_in c.args.self.now) (marks_in c.judge_object.new.self) c.args.meter.now.steps c.judge_object.new.meter.steps) (sym c.in-Object.is)
    (IsSpentIn-since c.args.events.now (scope.Object c.in-Object.key) (marks_in c.args.self.now) (marks_in c.split.new.self) (marks_in c.judge_object.new.self) _ _ c.split.ensures.marks spent))
    c.judge_object.ensures.spent

pub returns-in-Object-clause-most : goal.returns-in-Object-clause-most
returns-in-Object-clause-most c =
    subst (λ s. IsSpentAtMostIn c.args.events.now s (marks_in c.args.self.now) (marks_in c.judge_object.new.self) c.args.meter.now.steps c.judge_object.new.meter.steps) (sym c.in-Object.is)
    (IsSpentAtMostIn-since c.args.events.now (scope.Object c.in-Object.key) (marks_in c.args.self.now) (marks_in c.split.new.self) (marks_in c.judge_object.new.self) _ _ c.split.ensures.marks c.judge_object.ensures.most)

pub returns-in-Object-clause-idle : goal.returns-in-Object-clause-idle
returns-in-Object-clause-idle c = λ nothing.
    (c.judge_object.ensures.rests (subst (λ s. IsNothingDue c.args.events.now s (marks_in c.split.new.self)) c.in-Object.is (IsNothingDue-since c.args.events.now c.args.scope _ _ c.split.ensures.marks nothing))).1

pub returns-in-Object-clause-ready : goal.returns-in-Object-clause-ready
returns-in-Object-clause-ready c = λ apart nothing.
    (c.judge_object.ensures.rests (subst (λ s. IsNothingDue c.args.events.now s (marks_in c.split.new.self)) c.in-Object.is (IsNothingDue-since c.args.events.now c.args.scope _ _ c.split.ensures.marks nothing))).0

pub returns-in-Whole-clause-right : goal.returns-in-Whole-clause-right
returns-in-Whole-clause-right c = c.judge_whole.ensures.right (kind_of c.args.kinds.now) (c.split.ensures.right c.args.budget c.requires.right)

pub returns-in-Whole-clause-verdict : goal.returns-in-Whole-clause-verdict
returns-in-Whole-clause-verdict c =
    let now : Present = record { history = c.args.events.now; kinds = c.args.kinds.now; budget = c.args.budget } in
    IfOk-weaker c.judge_whole.result
    (λ verdict. (kinds : Item → Kind) → AreRight c.split.new.self kinds c.args.budget c.args.events.now → IsWellFormed (functions_of kinds) c.args.events.now → IsWholeVerdict kinds c.args.budget c.args.events.now verdict)
    (IsVerdict now c.args.scope)
    (λ verdict told.
    let is = told (kind_of c.args.kinds.now) (c.split.ensures.right c.args.budget c.requires.right) c.requires.well_formed in
    subst (λ s. IsVerdict now s verdict) (sym c.in-Whole.is) (IsVerdict-whole now verdict c.requires.well_formed is)) c.judge_whole.ensures.verdict

pub returns-in-Whole-clause-told : goal.returns-in-Whole-clause-told
returns-in-Whole-clause-told c =
    IfOk-weaker c.judge_whole.result _ _ (λ verdict told. subst (λ s. IsMarkedAs c.args.events.now s (marks_in c.judge_whole.new.self) verdict) (sym c.in-Whole.is) told) c.judge_whole.ensures.told

pub returns-in-Whole-clause-decided : goal.returns-in-Whole-clause-decided
returns-in-Whole-clause-decided c = λ exact. c.judge_whole.ensures.decided (kind_of c.args.kinds.now) (c.split.ensures.right c.args.budget c.requires.right) (subst (AreExact (kind_of c.args.kinds.now) c.args.events.now) c.in-Whole.is exact)

pub returns-in-Whole-clause-carried : goal.returns-in-Whole-clause-carried
returns-in-Whole-clause-carried c =
    subst (λ s. AreCarriedOn c.args.events.now s (marks_in c.args.self.now) (marks_in c.judge_whole.new.self)) (sym c.in-Whole.is)
    (AreCarriedOn-since c.args.events.now scope.Whole (marks_in c.args.self.now) (marks_in c.split.new.self) (marks_in c.judge_whole.new.self) c.split.ensures.marks c.judge_whole.ensures.carried)

pub returns-in-Whole-clause-known : goal.returns-in-Whole-clause-known
returns-in-Whole-clause-known c = on_ok_weaker c.judge_whole.result (λ known. subst (λ s. IsNothingDue c.args.events.now s (marks_in c.judge_whole.new.self)) (sym c.in-Whole.is) known) c.judge_whole.ensures.known

pub returns-in-Whole-clause-spent : goal.returns-in-Whole-clause-spent
returns-in-Whole-clause-spent c =
    on_ok_weaker c.judge_whole.result
    (λ spent. subst (λ s. IsSpentIn c.args.events.now s (marks_in c.args.self.now) (marks_in c.judge_whole.new.self) c.args.meter.now.steps c.judge_whole.new.meter.steps) (sym c.in-Whole.is)
    (IsSpentIn-since c.args.events.now scope.Whole (marks_in c.args.self.now) (marks_in c.split.new.self) (marks_in c.judge_whole.new.self) _ _ c.split.ensures.marks spent))
    c.judge_whole.ensures.spent

pub returns-in-Whole-clause-most : goal.returns-in-Whole-clause-most
returns-in-Whole-clause-most c =
    subst (λ s. IsSpentAtMostIn c.args.events.now s (marks_in c.args.self.now) (marks_in c.judge_whole.new.self) c.args.meter.now.steps c.judge_whole.new.meter.steps) (sym c.in-Whole.is)
    (IsSpentAtMostIn-since c.args.events.now scope.Whole (marks_in c.args.self.now) (marks_in c.split.new.self) (marks_in c.judge_whole.new.self) _ _ c.split.ensures.marks c.judge_whole.ensures.most)

pub returns-in-Whole-clause-idle : goal.returns-in-Whole-clause-idle
returns-in-Whole-clause-idle c = λ nothing.
    (c.judge_whole.ensures.rests (subst (λ s. IsNothingDue c.args.events.now s (marks_in c.split.new.self)) c.in-Whole.is (IsNothingDue-since c.args.events.now c.args.scope _ _ c.split.ensures.marks nothing))).1

pub returns-in-Whole-clause-ready : goal.returns-in-Whole-clause-ready
returns-in-Whole-clause-ready c = λ apart nothing.
    (c.judge_whole.ensures.rests (subst (λ s. IsNothingDue c.args.events.now s (marks_in c.split.new.self)) c.in-Whole.is (IsNothingDue-since c.args.events.now c.args.scope _ _ c.split.ensures.marks nothing))).0

pub returns-in-Object-clause-exact : goal.returns-in-Object-clause-exact
returns-in-Object-clause-exact c = λ exact many.
    let bound = c.judge_object.ensures.exact (kind_of c.args.kinds.now) (c.split.ensures.right c.args.budget c.requires.right) (subst (AreExact (kind_of c.args.kinds.now) c.args.events.now) c.in-Object.is exact) many in
    subst (λ s. c.judge_object.new.meter.steps ≤ c.args.meter.now.steps + due_in c.args.events.now s (marks_in c.args.self.now)) (sym c.in-Object.is)
    (subst (λ n. c.judge_object.new.meter.steps ≤ c.args.meter.now.steps + n) (due_since c.args.events.now (scope.Object c.in-Object.key) (marks_in c.args.self.now) (marks_in c.split.new.self) (marks_in c.judge_object.new.self) 0 0 c.split.ensures.marks) bound)

pub returns-in-Whole-clause-exact : goal.returns-in-Whole-clause-exact
returns-in-Whole-clause-exact c = λ exact many.
    let bound = c.judge_whole.ensures.exact (kind_of c.args.kinds.now) (c.split.ensures.right c.args.budget c.requires.right) (subst (AreExact (kind_of c.args.kinds.now) c.args.events.now) c.in-Whole.is exact) many in
    subst (λ s. c.judge_whole.new.meter.steps ≤ c.args.meter.now.steps + due_in c.args.events.now s (marks_in c.args.self.now)) (sym c.in-Whole.is)
    (subst (λ n. c.judge_whole.new.meter.steps ≤ c.args.meter.now.steps + n) (due_since c.args.events.now scope.Whole (marks_in c.args.self.now) (marks_in c.split.new.self) (marks_in c.judge_whole.new.self) 0 0 c.split.ensures.marks) bound)
