use Rattle.std.proofs.Common.{◌≡◌, ◌++◌, ◌∙◌, ap, codes, false, rules, subst, sym, true, true≢false}
use Rattle.lin_answers.specs.Answers.{IsAnswer, verdict_of}
use Rattle.lin_explain.specs.Explained.{scope_of}
use Rattle.lin_report.specs.Pictures.{IsDrawing}
use Rattle.lin_report.specs.Reports.{answer_status, answer_text, is_ill_formed, opened}
use Rattle.lin_report.proofs.drawing.drawing_of.Goals as goal
use Rattle.lin_report.proofs.drawing.drawing_of.Goals.{then-is_ill_formed+in_ok-text, else-is_ill_formed+in_ok-text-2}

pub returns : goal.returns
returns c =
    let answer = c.in_ok-answer.answer in
    let verdict = c.verdict_of-verdict.result in
    let same : verdict ≡ verdict_of answer = c.verdict_of-verdict.ensures in
    let now = opened c.args.settings c.args.events.items in
    let asked = subst (λ scope. IsAnswer c.in_ok-session.session.present scope answer) c.scope_of.ensures c.in_ok-answer.ensures.answer in
    let is_answer = subst (λ present. IsAnswer present (scope_of c.args.key) answer) c.in_ok-session.ensures asked in
    let status = c.status_of.ensures ∙ ap answer_status same in
    elim c.if-is_ill_formed.branch [
      | then-is_ill_formed+in_ok-text w ↦
          let line : w.in_ok-text.text.items ≡ answer_text verdict ++ codes "\n" = search rules in
          let sound : is_ill_formed (verdict_of answer) ≡ true = sym (ap is_ill_formed same) ∙ sym w.if-is_ill_formed.ensures in
          subst (λ text. IsDrawing now c.args.key text.items c.status_of.result) (sym w.text-is) (record {
            answer = answer;
            is_answer = is_answer;
            says = λ _. line ∙ ap (λ v. answer_text v ++ codes "\n") same;
            drawn = λ other. absurd (true≢false (sym sound ∙ other));
            status_is = status;
          })
      | else-is_ill_formed+in_ok-text-2 w ↦
          let other : is_ill_formed (verdict_of answer) ≡ false = sym (ap is_ill_formed same) ∙ sym w.if-is_ill_formed.ensures in
          subst (λ text. IsDrawing now c.args.key text.items c.status_of.result) (sym w.text-is) (record {
            answer = answer;
            is_answer = is_answer;
            says = λ sound. absurd (true≢false (sym sound ∙ other));
            drawn = w.in_ok-text-2.ensures;
            status_is = status;
          })
    ]
