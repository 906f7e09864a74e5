use Rattle.std.proofs.Common.{◌<◌, ◌≤◌, ◌+◌, ℕ, arith, sym, subst}
use Rattle.lin_certificates.specs.Numbers.{AtLeast}
use Rattle.lin_certificates.specs.lemmas.Counting.{least_more, least_of, least_same}
use Rattle.lin_queues.specs.Ranks.{HasTakenItem}
use Rattle.lin_queues.proofs.counts.takes_from.Goals.{then-is_taken_from, else-is_taken_from}
use Rattle.lin_queues.proofs.counts.takes_from.Goals as goal

pub loop-at-preserved : goal.loop-at-preserved
loop-at-preserved c =
    let Is = λ (x : ℕ). HasTakenItem c.args.events.now c.args.item x × (c.args.from ≤ x) in
    let below = c.loop-at.invariant.0 in
    elim c.if-is_taken_from.branch [
      | then-is_taken_from w ↦
          subst (λ k. (k ≤ c.loop-at.at + 1) × AtLeast k (λ at. Is at × (at < c.loop-at.at + 1))) (sym w.takes-is)
          (omega (arith, below), least_more Is c.loop-at.takes c.loop-at.at c.loop-at.invariant.1 (c.is_taken_from.ensures w.if-is_taken_from.true))
      | else-is_taken_from w ↦
          subst (λ k. (k ≤ c.loop-at.at + 1) × AtLeast k (λ at. Is at × (at < c.loop-at.at + 1))) (sym w.takes-is)
          (omega (arith, below), least_same Is c.loop-at.takes c.loop-at.at c.loop-at.invariant.1)
    ]

pub returns : goal.returns
returns c = least_of (λ x. HasTakenItem c.args.events.now c.args.item x × (c.args.from ≤ x)) c.loop-at.takes c.loop-at.at c.loop-at.invariant.1
