use Rattle.std.proofs.Common.{arith}
use Rattle.lin_order.specs.lemmas.Lists.{yes_since}
use Rattle.lin_order.specs.Orders.{IsBefore}
use Rattle.lin_certificates.specs.Words.{IsOfWhich}
use Rattle.lin_certificates.proofs.Passing.{all_more, which_within}
use Rattle.lin_certificates.proofs.passes.all_ahead.Goals.{else-is_of_which-via-then-is_of_which+else-not-comes_before, else-is_of_which-via-else-is_of_which}
use Rattle.lin_certificates.proofs.passes.all_ahead.Goals as goal

pub loop-at-preserved : goal.loop-at-preserved
loop-at-preserved c =
    let h = c.args.events.now in
    all_more (IsOfWhich h c.args.which.now) (λ at. IsBefore h at c.args.place) c.loop-at.at c.loop-at.invariant
    (λ is. elim c.else-is_of_which.branch [
      | else-is_of_which-via-then-is_of_which+else-not-comes_before w ↦ w.comes_before.ensures.0 w.if-not-comes_before.false
      | else-is_of_which-via-else-is_of_which w ↦ let yes' = c.is_of_which.ensures.1 is in let no = w.if-is_of_which.false in cc
    ])

pub returns : goal.returns
returns c =
    let ended = c.loop-at-test.false in
    yes_since (λ at is. c.loop-at.invariant at (let within = which_within c.args.events.now c.args.which.now at is in omega (arith, ended, within)) is)
