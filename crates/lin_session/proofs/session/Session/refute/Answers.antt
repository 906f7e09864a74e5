use Rattle.std.proofs.Common.{sym, subst}
use Rattle.lin_answers.specs.declared.answers.Scope.TheVariants.{Object}
use Rattle.lin_answers.specs.declared.answers.Verdict.TheVariants.{No}
use Rattle.lin_answers.specs.Answers.{IsVerdict}
use Rattle.lin_answers.specs.Edits.{Present}
use Rattle.lin_order.specs.Refutations.{sets_of}
use Rattle.lin_session.specs.Marks.{IsMarkedAs}
use Rattle.lin_session.specs.Refuting.{IsUnrefuted, Refutes}
use Rattle.lin_session.specs.Known.{mark_of}
use Rattle.lin_session.proofs.Found.{passed_on}
use Rattle.lin_session.proofs.session.Session.refute.Goals as goal
use Rattle.lin_session.proofs.session.Session.refute.Goals.{In-Ok-No}

-- the object is a no, and it is told that it is dead
no : (c : In-Ok-No) → IsVerdict c.order.new.self.present (Object c.args.key) (No c.in-Ok-No.prefix)
no c = subst (λ (now : Present). IsVerdict now (Object c.args.key) (No c.in-Ok-No.prefix)) (sym c.order.ensures.present) (rw c.in-Ok-No.field-0-is at c.in-Ok-No.ensures.answer)

told : (c : In-Ok-No) → IsMarkedAs c.order.new.self.present.history (Object c.args.key) (mark_of c.order.new.self.marks) (No c.in-Ok-No.prefix)
told c = subst (λ (now : Present). IsMarkedAs now.history (Object c.args.key) (mark_of c.order.new.self.marks) (No c.in-Ok-No.prefix)) (sym c.order.ensures.present) (rw c.in-Ok-No.field-0-is at c.in-Ok-No.ensures.told)

pub read_sets-requires-clause-no : goal.read_sets-requires-clause-no
read_sets-requires-clause-no c = let b = (goal.at.read_sets-requires-clause-no c).In-Ok-No in (c.in-Ok-No.prefix, no b, told b)

pub returns-in_err-refutation-in-Ok-No-clause-unrefuted : goal.returns-in_err-refutation-in-Ok-No-clause-unrefuted
returns-in_err-refutation-in-Ok-No-clause-unrefuted c =
    let fault = c.in_err-refutation-in-Ok-No.field-0.0 in
    passed_on c.from_residual.result fault (IsUnrefuted c.args.self.now.present c.args.key) c.from_residual.ensures.1
    (subst (λ (now : Present). IsUnrefuted now c.args.key fault) c.order.ensures.present c.in_err-refutation-in-Ok-No.ensures.unrefuted)

pub returns-in_ok-refutation-in-Ok-No-clause-refuted : goal.returns-in_ok-refutation-in-Ok-No-clause-refuted
returns-in_ok-refutation-in-Ok-No-clause-refuted c =
    let b = (goal.at.returns-in_ok-refutation-in-Ok-No-clause-refuted c).In-Ok-No in
    let n = c.in-Ok-No.prefix in
    let sets = c.in_ok-refutation-in-Ok-No.ensures.refuted n (no b) (told b) in (
      rw c.in-Ok-No.field-0-is at c.in-Ok-No.ensures.answer,
      subst (λ (now : Present). Refutes now c.args.key n (sets_of c.in_ok-refutation-in-Ok-No.refutation)) c.order.ensures.present sets,
    )
