use Rattle.std.proofs.Common.{Some, option_map, subst, sym}
use Rattle.lin_answers.specs.Answers.{IsAnswer}
use Rattle.lin_answers.specs.Edits.{Present}
use Rattle.lin_answers.specs.declared.answers.Answer.TheVariants.{No}
use Rattle.lin_answers.specs.declared.answers.Scope.TheVariants.{Object}
use Rattle.lin_explain.specs.Explained.{Explains}
use Rattle.lin_report.specs.Explanations.{IsFailing}
use Rattle.lin_report.specs.inner.Still.{IsSettledFor}
use Rattle.lin_report.proofs.Besides.{failing_answers, settled_for, still_told}
use Rattle.lin_report.proofs.beside.beside_of.Goals as goal

pub told_of-requires : goal.told_of-requires
told_of-requires c =
    let names = c.args.names.now in
    let now = c.args.session.now.present in
    let f = c.in-Some.failing in
    let is = subst (λ some. IsFailing names now c.args.asked.key c.verdict_of.result some) c.in-Some.is c.in_ok-failing.ensures.failing in
    subst (λ (present : Present). IsAnswer present (Object f.key) (No f.prefix)) (sym c.failing_of.ensures.present) (failing_answers names now c.args.asked.key c.verdict_of.result f is)

pub returns-in_err-told-clause-still : goal.returns-in_err-told-clause-still
returns-in_err-told-clause-still c settled =
    let names = c.args.names.now in
    let session = c.args.session.now in
    let key = c.args.asked.key in
    let told = c.args.answer.now in
    let same = c.verdict_of.ensures in
    let found = subst (λ some. IsFailing names session.present key c.verdict_of.result some) c.in-Some.is c.in_ok-failing.ensures.failing in
    let is = subst (λ verdict. IsFailing names session.present key verdict (Some c.in-Some.failing)) same found in
    let ready = subst (λ verdict. IsSettledFor key verdict session) (sym same) (settled_for key told session c.requires settled) in
    still_told names key told c.in-Some.failing session c.failing_of.new.session c.told_of.new.session is (c.failing_of.ensures.still ready) c.told_of.ensures.same c.told_of.ensures.most c.told_of.ensures.scans

pub returns-clause-still : goal.returns-clause-still
returns-clause-still c settled =
    let names = c.args.names.now in
    let session = c.args.session.now in
    let key = c.args.asked.key in
    let told = c.args.answer.now in
    let same = c.verdict_of.ensures in
    let found = subst (λ some. IsFailing names session.present key c.verdict_of.result some) c.in-Some.is c.in_ok-failing.ensures.failing in
    let is = subst (λ verdict. IsFailing names session.present key verdict (Some c.in-Some.failing)) same found in
    let ready = subst (λ verdict. IsSettledFor key verdict session) (sym same) (settled_for key told session c.requires settled) in
    still_told names key told c.in-Some.failing session c.failing_of.new.session c.told_of.new.session is (c.failing_of.ensures.still ready) c.told_of.ensures.same c.told_of.ensures.most c.told_of.ensures.scans

pub returns-clause-beside : goal.returns-clause-beside
returns-clause-beside c =
    let names = c.args.names.now in
    let session = c.args.session.now in
    let key = c.args.asked.key in
    let same = c.verdict_of.ensures in
    let found = subst (λ some. IsFailing names session.present key c.verdict_of.result some) c.in-Some.is c.in_ok-failing.ensures.failing in
    let is = subst (λ verdict. IsFailing names session.present key verdict (Some c.in-Some.failing)) same found in
    let asked = record c.args.asked { key = Some c.in-Some.failing.key } in (
      is,
      subst (λ (present : Present). Explains names present asked (option_map (λ p. p.now) c.args.places) (No c.in-Some.failing.prefix) c.in_ok-told.told.lines.items c.in_ok-told.told.parts)
          c.failing_of.ensures.present c.in_ok-told.ensures.told,
    )
