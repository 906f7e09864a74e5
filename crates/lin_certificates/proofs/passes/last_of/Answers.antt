use Rattle.std.proofs.Common.{◌+◌, arith, sym, subst}
use Rattle.lin_certificates.specs.Words.{IsOfWhich}
use Rattle.lin_certificates.proofs.Passing.{LastBelow, last_at_end, last_here, last_same, which_within}
use Rattle.lin_certificates.proofs.passes.last_of.Goals.{then-is_of_which, else-is_of_which}
use Rattle.lin_certificates.proofs.passes.last_of.Goals as goal

pub loop-at-preserved : goal.loop-at-preserved
loop-at-preserved c =
    let Is = IsOfWhich c.args.events.now c.args.which.now in
    let at = c.loop-at.at in
    elim c.if-is_of_which.branch [
      | then-is_of_which w ↦ subst (LastBelow Is (at + 1)) (sym w.last-is) (last_here Is at c.loop-at.last (c.is_of_which.ensures.0 w.if-is_of_which.true))
      | else-is_of_which w ↦
          subst (LastBelow Is (at + 1)) (sym w.last-is)
          (last_same Is at c.loop-at.last c.loop-at.invariant (λ is. let yes' = c.is_of_which.ensures.1 is in let no = w.if-is_of_which.false in cc))
    ]

pub returns : goal.returns
returns c =
    let ended = c.loop-at-test.false in
    last_at_end (IsOfWhich c.args.events.now c.args.which.now) c.loop-at.at c.loop-at.last c.loop-at.invariant
    (λ at is. let within = which_within c.args.events.now c.args.which.now at is in omega (arith, ended, within))
