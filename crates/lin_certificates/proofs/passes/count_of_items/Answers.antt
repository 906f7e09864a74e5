use Rattle.std.proofs.Common.{◌≤◌, ◌+◌, ℕ, arith, sym, subst}
use Rattle.lin_certificates.specs.Words.{Concerns, IsOfWhich}
use Rattle.lin_certificates.proofs.Passing.{CountBelow, count_at_end, count_here, count_same, which_within}
use Rattle.lin_certificates.proofs.passes.count_of_items.Goals.{then-is_of_which+then-concerns, else-is_of_which, else-is_of_which-via-then-is_of_which+else-concerns, else-is_of_which-via-else-is_of_which}
use Rattle.lin_certificates.proofs.passes.count_of_items.Goals as goal

pub loop-at-preserved : goal.loop-at-preserved
loop-at-preserved c =
    let Is : ℕ → Type 0 = λ at. IsOfWhich c.args.events.now c.args.which.now at × Concerns c.args.events.now c.args.items.now at in
    let at = c.loop-at.at in
    let below = c.loop-at.invariant.0 in
    elim c.if-is_of_which.branch [
      | then-is_of_which+then-concerns w ↦
          subst (λ k. (k ≤ at + 1) × CountBelow Is (at + 1) k) (sym w.count-is)
          (omega (arith, below), count_here Is at c.loop-at.count c.loop-at.invariant.1 (c.is_of_which.ensures.0 w.if-is_of_which.true, w.concerns.ensures.0 w.if-concerns.true))
      | else-is_of_which w ↦
          subst (λ k. (k ≤ at + 1) × CountBelow Is (at + 1) k) (sym w.count-is) (
            omega (arith, below),
            count_same Is at c.loop-at.count c.loop-at.invariant.1 (λ is. elim w.else-is_of_which.branch [
              | else-is_of_which-via-then-is_of_which+else-concerns w' ↦ let yes' = w'.concerns.ensures.1 is.1 in let no = w'.if-concerns.false in cc
              | else-is_of_which-via-else-is_of_which w' ↦ let yes' = c.is_of_which.ensures.1 is.0 in let no = w'.if-is_of_which.false in cc
            ]),
          )
    ]

pub returns : goal.returns
returns c =
    let ended = c.loop-at-test.false in
    count_at_end (λ at. IsOfWhich c.args.events.now c.args.which.now at × Concerns c.args.events.now c.args.items.now at) c.loop-at.at c.loop-at.count c.loop-at.invariant.1
    (λ at is. let within = which_within c.args.events.now c.args.which.now at is.0 in omega (arith, ended, within))
