use Rattle.std.proofs.Common.{◌≤◌, ◌+◌, arith, sym, subst}
use Rattle.lin_certificates.specs.Words.{IsOfWhich}
use Rattle.lin_certificates.proofs.Passing.{CountBelow, count_at_end, count_here, count_same, which_within}
use Rattle.lin_certificates.proofs.passes.count_of.Goals.{then-is_of_which, else-is_of_which}
use Rattle.lin_certificates.proofs.passes.count_of.Goals as goal

pub loop-at-preserved : goal.loop-at-preserved
loop-at-preserved c =
    let Is = IsOfWhich c.args.events.now c.args.which.now in
    let at = c.loop-at.at in
    let below = c.loop-at.invariant.0 in
    elim c.if-is_of_which.branch [
      | then-is_of_which w ↦
          subst (λ k. (k ≤ at + 1) × CountBelow Is (at + 1) k) (sym w.count-is) (omega (arith, below), count_here Is at c.loop-at.count c.loop-at.invariant.1 (c.is_of_which.ensures.0 w.if-is_of_which.true))
      | else-is_of_which w ↦
          subst (λ k. (k ≤ at + 1) × CountBelow Is (at + 1) k) (sym w.count-is)
          (omega (arith, below), count_same Is at c.loop-at.count c.loop-at.invariant.1 (λ is. let yes' = c.is_of_which.ensures.1 is in let no = w.if-is_of_which.false in cc))
    ]

pub returns : goal.returns
returns c =
    let ended = c.loop-at-test.false in
    count_at_end (IsOfWhich c.args.events.now c.args.which.now) c.loop-at.at c.loop-at.count c.loop-at.invariant.1
    (λ at is. let within = which_within c.args.events.now c.args.which.now at is in omega (arith, ended, within))
