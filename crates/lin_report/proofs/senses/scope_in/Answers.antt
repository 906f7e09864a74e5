use Rattle.std.proofs.Common.{Ok, ap, drop, not, subst, sym, ◌∙◌}
use Rattle.lin_texts.specs.Parts.{words_from}
use Rattle.lin_answers.specs.declared.answers.Scope.TheVariants.{Object}
use Rattle.lin_report.specs.Commands as said
use Rattle.lin_report.specs.MapCommands.{IsScope}
use Rattle.lin_report.proofs.WordSenses.{scope_is, scope_made, scope_refused}
use Rattle.lin_report.proofs.senses.scope_in.Goals as goal

pub returns-in_err-key_in-clause-scope : goal.returns-in_err-key_in-clause-scope
returns-in_err-key_in-clause-scope c = λ number agrees.
    let words = words_from c.args.from (drop c.args.from c.args.line.now) in
    subst (λ s. IsScope s c.from_residual.result) (sym (scope_is number c.args.line.now c.args.from c.next_word.result (c.is_none.ensures ∙ ap not c.if-is_none.false) c.next_word.ensures))
    (scope_refused (said.key_in number words) c.in_err-key_in.field-0.0 c.from_residual.result c.from_residual.ensures.1 (c.in_err-key_in.ensures.key number agrees))

pub returns-clause-scope : goal.returns-clause-scope
returns-clause-scope c = λ number agrees.
    let words = words_from c.args.from (drop c.args.from c.args.line.now) in
    subst (λ s. IsScope s (Ok (Object c.in_ok-key_in.field-0))) (sym (scope_is number c.args.line.now c.args.from c.next_word.result (c.is_none.ensures ∙ ap not c.if-is_none.false) c.next_word.ensures))
    (scope_made (said.key_in number words) c.in_ok-key_in.field-0 (c.in_ok-key_in.ensures.key number agrees))
