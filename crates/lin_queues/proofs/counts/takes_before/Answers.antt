use Rattle.std.proofs.Common.{◌<◌, ◌≤◌, ◌+◌, ℕ, arith, sym, subst}
use Rattle.lin_certificates.specs.Numbers.{AtLeast}
use Rattle.lin_certificates.specs.lemmas.Counting.{least_more, least_of, least_same}
use Rattle.lin_order.specs.Orders.{IsBefore}
use Rattle.lin_queues.specs.Ranks.{HasTaken}
use Rattle.lin_queues.proofs.counts.takes_before.Goals.{then-is_taken_before, else-is_taken_before}
use Rattle.lin_queues.proofs.counts.takes_before.Goals as goal

pub loop-at-preserved : goal.loop-at-preserved
loop-at-preserved c =
    let Is = λ (x : ℕ). HasTaken c.args.events.now x × IsBefore c.args.events.now x c.args.place in
    let below = c.loop-at.invariant.0 in
    elim c.if-is_taken_before.branch [
      | then-is_taken_before w ↦
          subst (λ k. (k ≤ c.loop-at.at + 1) × AtLeast k (λ at. Is at × (at < c.loop-at.at + 1))) (sym w.takes-is)
          (omega (arith, below), least_more Is c.loop-at.takes c.loop-at.at c.loop-at.invariant.1 (c.is_taken_before.ensures w.if-is_taken_before.true))
      | else-is_taken_before w ↦
          subst (λ k. (k ≤ c.loop-at.at + 1) × AtLeast k (λ at. Is at × (at < c.loop-at.at + 1))) (sym w.takes-is)
          (omega (arith, below), least_same Is c.loop-at.takes c.loop-at.at c.loop-at.invariant.1)
    ]

pub returns : goal.returns
returns c = least_of (λ x. HasTaken c.args.events.now x × IsBefore c.args.events.now x c.args.place) c.loop-at.takes c.loop-at.at c.loop-at.invariant.1
