use Rattle.std.proofs.Common.{◌≡◌, ◌++◌, ◌∷◌, ◌∙◌, [], ap, option_map, subst, sym}
use Rattle.lin_report.specs.Explanations.{AreExplained, between}
use Rattle.lin_report.specs.Explanations.AreExplained.{one_more, one_yes}
use Rattle.lin_report.proofs.each.put_one.Goals as goal

pub returns-then-is_yes-clause-put : goal.returns-then-is_yes-clause-put
returns-then-is_yes-clause-put c = λ before so_far. one_yes so_far c.args.found (sym c.is_yes.ensures ∙ c.if-is_yes.true)

pub returns-clause-put : goal.returns-clause-put
returns-clause-put c = λ before so_far.
    let format = c.args.question.0 in
    let old = c.args.text.now.items in
    let more = c.in_ok-answered.answered.text.items in
    let put : c.extend_from_slice.new.self.items ≡ (old ++ between format old) ++ more =
    c.in_ok-extend_from_slice.ensures.items ∙ ap (λ l. c.put_between.new.text.items ++ l) c.as_slice.ensures.value ∙ ap (λ l. l ++ more) c.in_ok-put_between.ensures in
    subst (AreExplained c.args.names.now format c.args.session.now.present c.args.question.1 (option_map (λ p. p.now) c.args.places) (before ++ c.args.found ∷ [])) (sym put)
    (one_more so_far c.args.found more c.in_ok-answered.answered.status (sym c.is_yes.ensures ∙ c.if-is_yes.false) c.in_ok-answered.ensures.explained)
