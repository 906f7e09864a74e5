use Rattle.std.proofs.Common.{◌≡◌, ◌*◌, ◌∙◌, ap, length, option_map, subst, sym}
use Rattle.lin_answers.specs.Answers.{IsAnswer, verdict_of}
use Rattle.lin_answers.specs.Edits.{Present}
use Rattle.lin_explain.specs.Explained.{Explains, scope_of}
use Rattle.lin_session.specs.Sessions.{Standing}
use Rattle.lin_report.specs.Explanations.{IsBeside, explanation_text}
use Rattle.lin_report.proofs.Besides.{settled_behind}
use Rattle.lin_report.proofs.Questions.{question_alone, question_beside, question_told}
use Rattle.lin_report.proofs.explaining.explanation.Goals as goal

pub returns-clause-explained : goal.returns-clause-explained
returns-clause-explained c =
    let names = c.args.names.now in
    let answer = c.in_ok-answer.answer in
    let lines = c.in_ok-told.told.lines.items in
    let parts = c.in_ok-told.told.parts in
    let beside = c.in_ok-beside.beside in
    let places = option_map (λ p. p.now) c.args.places in
    let first = c.order.ensures.present in
    let mid = c.beside_of.ensures.present ∙ first in
    let now : c.told_of.new.session.present ≡ c.args.session.now.present = ap (λ (s : Standing). s.present) c.told_of.ensures.same ∙ mid in
    let count : c.len-count.result ≡ length c.args.session.now.present.history = c.len-count.ensures ∙ ap (λ (now : Present). length now.history) now in
    record {
      answer = answer;
      lines = lines;
      parts = parts;
      beside = beside;
      is_answer = subst (λ scope. IsAnswer c.args.session.now.present scope answer) (sym c.requires) c.in_ok-answer.ensures.answer;
      explained = subst (λ now. Explains names now c.args.asked places answer lines parts) mid c.in_ok-told.ensures.told;
      is_beside = subst (λ now. IsBeside names now c.args.asked places (verdict_of answer) beside) first c.in_ok-beside.ensures.beside;
      says = c.in_ok-answered.ensures.0 ∙ ap (λ n. explanation_text names c.args.format n (verdict_of answer) lines parts (option_map (λ b. b.now) c.as_ref-also.result)) count
          ∙ ap (λ b. explanation_text names c.args.format (length c.args.session.now.present.history) (verdict_of answer) lines parts b) c.as_ref-also.ensures.value;
      status_is = c.in_ok-answered.ensures.1;
    }

pub beside_of-requires : goal.beside_of-requires
beside_of-requires c =
    let answer = c.in_ok-answer.answer in
    subst (λ (now : Present). IsAnswer now (scope_of c.args.asked.key) answer) (sym c.in_ok-answer.ensures.present)
    (subst (λ scope. IsAnswer c.args.session.now.present scope answer) (sym c.requires) c.in_ok-answer.ensures.answer)

pub told_of-requires : goal.told_of-requires
told_of-requires c =
    let answer = c.in_ok-answer.answer in
    subst (λ (now : Present). IsAnswer now (scope_of c.args.asked.key) answer) (sym (c.beside_of.ensures.present ∙ c.order.ensures.present))
    (subst (λ scope. IsAnswer c.args.session.now.present scope answer) (sym c.requires) c.in_ok-answer.ensures.answer)

pub returns-in_err-answer-clause-question : goal.returns-in_err-answer-clause-question
returns-in_err-answer-clause-question c = question_alone c.args.scope (13 * length c.args.session.now.present.history) c.args.session.now c.order.new.self c.order.ensures.question

pub returns-in_err-beside-clause-question : goal.returns-in_err-beside-clause-question
returns-in_err-beside-clause-question c =
    let old = c.args.session.now in
    let mid = c.order.new.self in
    let settled = settled_behind c.args.asked.key c.args.scope old mid c.requires c.in_ok-answer.ensures.answered c.order.ensures.present in
    question_beside c.args.scope c.in_ok-answer.answer old mid c.beside_of.new.session c.order.ensures.question c.order.ensures.present (c.beside_of.ensures.still settled)

pub returns-in_err-told-clause-question : goal.returns-in_err-told-clause-question
returns-in_err-told-clause-question c =
    let old = c.args.session.now in
    let mid = c.order.new.self in
    let settled = settled_behind c.args.asked.key c.args.scope old mid c.requires c.in_ok-answer.ensures.answered c.order.ensures.present in
    question_told c.args.scope c.in_ok-answer.answer old mid c.beside_of.new.session c.told_of.new.session c.order.ensures.question c.order.ensures.present (c.beside_of.ensures.still settled)
    c.told_of.ensures.same c.told_of.ensures.most c.told_of.ensures.scans

pub returns-in_err-answered-clause-question : goal.returns-in_err-answered-clause-question
returns-in_err-answered-clause-question c =
    let old = c.args.session.now in
    let mid = c.order.new.self in
    let settled = settled_behind c.args.asked.key c.args.scope old mid c.requires c.in_ok-answer.ensures.answered c.order.ensures.present in
    question_told c.args.scope c.in_ok-answer.answer old mid c.beside_of.new.session c.told_of.new.session c.order.ensures.question c.order.ensures.present (c.beside_of.ensures.still settled)
    c.told_of.ensures.same c.told_of.ensures.most c.told_of.ensures.scans

pub returns-clause-question : goal.returns-clause-question
returns-clause-question c =
    let old = c.args.session.now in
    let mid = c.order.new.self in
    let settled = settled_behind c.args.asked.key c.args.scope old mid c.requires c.in_ok-answer.ensures.answered c.order.ensures.present in
    question_told c.args.scope c.in_ok-answer.answer old mid c.beside_of.new.session c.told_of.new.session c.order.ensures.question c.order.ensures.present (c.beside_of.ensures.still settled)
    c.told_of.ensures.same c.told_of.ensures.most c.told_of.ensures.scans
