use Rattle.std.proofs.Common.{◌≡◌, ◌∙◌, Some, ap, slice_get, subst, sym}
use Rattle.std.proofs.lemmas.Option.{slice_get-get_or}
use Rattle.std.proofs.lemmas.List.{take_all}
use Rattle.lin_possibilities.specs.inner.Gathering.{IsTakenFrom}
use Rattle.lin_possibilities.proofs.Showing.{AnswersIn, taken_begun, taken_next}
use Rattle.lin_possibilities.proofs.possible.put_replies.Goals as goal

pub loop-pair-init : goal.loop-pair-init
loop-pair-init c = taken_begun c.args.process c.args.way c.args.found.now.entries

pub loop-pair-preserved : goal.loop-pair-preserved
loop-pair-preserved c =
    let pairs = c.args.pairs.now in
    let there : slice_get pairs c.loop-pair.pair-index ≡ Some c.pair-item.result = slice_get-get_or pairs c.loop-pair.pair-index c.pair-item.result c.loop-pair-test.true ∙ ap Some (sym c.pair-item.is) in
    taken_next c.args.process c.args.way pairs c.loop-pair.pair-index c.pair-item.result c.args.found.now.entries c.loop-pair.found.entries c.put_answer.new.found.entries there c.in_ok-put_answer.ensures c.loop-pair.invariant

pub returns : goal.returns
returns c = subst (λ l. IsTakenFrom (AnswersIn c.args.process c.args.way) l c.args.way c.args.found.now.entries c.loop-pair.found.entries) (take_all c.loop-pair.pair-index c.args.pairs.now c.loop-pair-test.false) c.loop-pair.invariant
