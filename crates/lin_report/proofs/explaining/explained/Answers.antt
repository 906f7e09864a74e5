use Rattle.std.proofs.Common.{◌∙◌, Some, ap, length, option_map, subst}
use Rattle.lin_answers.specs.Answers.{IsAnswer, verdict_of}
use Rattle.lin_answers.specs.Edits.{Present}
use Rattle.lin_explain.specs.Explained.{Explains, scope_of}
use Rattle.lin_report.specs.Explanations.{IsBeside, explanation_text}
use Rattle.lin_report.specs.Reports.{opened}
use Rattle.lin_report.proofs.explaining.explained.Goals as goal

pub returns : goal.returns
returns c =
    let names = c.args.names.now in
    let now = opened c.args.settings c.args.events.items in
    let places = Some c.args.places.now.places in
    let answer = c.in_ok-answer.answer in
    let lines = c.in_ok-told.told.lines.items in
    let parts = c.in_ok-told.told.parts in
    let beside = c.in_ok-beside.beside in
    let begun = c.in_ok-session.ensures in
    let first = c.order.ensures.present ∙ begun in
    let mid = c.beside_of.ensures.present ∙ first in
    let count = c.len-count.ensures ∙ ap (λ (now : Present). length now.history) begun in
    record {
      answer = answer;
      lines = lines;
      parts = parts;
      beside = beside;
      is_answer = subst (λ now. IsAnswer now (scope_of c.args.asked.key) answer) begun (subst (λ scope. IsAnswer c.in_ok-session.session.present scope answer) c.scope_of.ensures c.in_ok-answer.ensures.answer);
      explained = subst (λ now. Explains names now c.args.asked places answer lines parts) mid c.in_ok-told.ensures;
      is_beside = subst (λ now. IsBeside names now c.args.asked places (verdict_of answer) beside) first
          (subst (λ list. IsBeside names c.order.new.self.present c.args.asked (Some list) (verdict_of answer) beside) c.as_slice.ensures c.in_ok-beside.ensures.beside);
      says = c.in_ok-answered.ensures.0 ∙ ap (λ n. explanation_text names c.args.format n (verdict_of answer) lines parts (option_map (λ b. b.now) c.as_ref-also.result)) count
          ∙ ap (λ b. explanation_text names c.args.format (length now.history) (verdict_of answer) lines parts b) c.as_ref-also.ensures.value;
      status_is = c.in_ok-answered.ensures.1;
    }
