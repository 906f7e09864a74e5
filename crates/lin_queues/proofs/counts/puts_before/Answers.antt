use Rattle.std.proofs.Common.{◌<◌, ◌≤◌, ◌+◌, ℕ, arith, sym, subst}
use Rattle.lin_certificates.specs.Numbers.{AtLeast}
use Rattle.lin_certificates.specs.lemmas.Counting.{least_more, least_of, least_same}
use Rattle.lin_order.specs.Orders.{IsBefore}
use Rattle.lin_queues.specs.Ranks.{HasPut}
use Rattle.lin_queues.proofs.counts.puts_before.Goals.{then-is_put_before, else-is_put_before}
use Rattle.lin_queues.proofs.counts.puts_before.Goals as goal

pub loop-at-preserved : goal.loop-at-preserved
loop-at-preserved c =
    let Is = λ (x : ℕ). HasPut c.args.events.now x × IsBefore c.args.events.now x c.args.place in
    let below = c.loop-at.invariant.0 in
    elim c.if-is_put_before.branch [
      | then-is_put_before w ↦
          subst (λ k. (k ≤ c.loop-at.at + 1) × AtLeast k (λ at. Is at × (at < c.loop-at.at + 1))) (sym w.puts-is)
          (omega (arith, below), least_more Is c.loop-at.puts c.loop-at.at c.loop-at.invariant.1 (c.is_put_before.ensures w.if-is_put_before.true))
      | else-is_put_before w ↦
          subst (λ k. (k ≤ c.loop-at.at + 1) × AtLeast k (λ at. Is at × (at < c.loop-at.at + 1))) (sym w.puts-is)
          (omega (arith, below), least_same Is c.loop-at.puts c.loop-at.at c.loop-at.invariant.1)
    ]

pub returns : goal.returns
returns c = least_of (λ x. HasPut c.args.events.now x × IsBefore c.args.events.now x c.args.place) c.loop-at.puts c.loop-at.at c.loop-at.invariant.1
