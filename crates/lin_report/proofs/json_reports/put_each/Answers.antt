use Rattle.std.proofs.Common.{◌++◌, ◌∙◌, ap, codes, get_or, ℕ, List, refl}
use Rattle.lin_texts.specs.lemmas.Putting.{all_pieces, one_more_piece}
use Rattle.lin_answers.specs.Answers.{kinds_in}
use Rattle.lin_report.specs.Reports.{json_object}
use Rattle.lin_report.specs.declared.findings.Finding.{Finding}
use Rattle.lin_report.proofs.json_reports.put_each.Goals as goal

pub returns : goal.returns
returns c =
    let text : Finding → List ℕ = λ f. json_object c.args.names.now (kinds_in c.args.session.now.present f.key) f in
    let first = c.in_ok-put_one.ensures ∙ ap (λ kind. c.args.text.now.items ++ json_object c.args.names.now kind c.in-Some.first.now) c.kind_of.ensures in
    all_pieces text (codes ",") c.args.found.now c.in-Some.others.now c.loop-other.other-index c.in-Some.first.now
    c.args.text.now.items c.put_one.new.text.items c.loop-other.text.items c.in-Some.ensures.cases c.loop-other-test.false first c.loop-other.invariant

pub loop-other-preserved : goal.loop-other-preserved
loop-other-preserved c =
    let text : Finding → List ℕ = λ f. json_object c.args.names.now (kinds_in c.args.session.now.present f.key) f in
    let other : Finding = get_or c.in-Some.others.now c.loop-other.other-index _ in
    one_more_piece text (codes ",") c.in-Some.others.now c.loop-other.other-index other _ c.put_one.new.text.items c.loop-other.text.items c.put_one-in-loop-other.new.text.items
    c.loop-other-test.true refl c.loop-other.invariant
    (c.in_ok-put_one-2.ensures ∙ ap (λ kind. c.push.new.self.items ++ json_object c.args.names.now kind other) c.kind_of-in-loop-other.ensures ∙ ap (λ l. l ++ text other) c.in_ok-push.ensures.items)
