use Rattle.std.proofs.Common.{◌<◌, ◌≤◌, ◌+◌, ℕ, arith, sym, subst}
use Rattle.std.proofs.lemmas.Option.{slice_get_within}
use Rattle.lin_certificates.specs.Numbers.{AtMost}
use Rattle.lin_certificates.specs.lemmas.Counting.{most_more, most_of, most_same}
use Rattle.lin_queues.specs.Ranks.{MayPutItem}
use Rattle.lin_queues.specs.inner.Returning.{IsReturnedBy}
use Rattle.lin_queues.proofs.counts.puts_between.Goals.{then-is_put_between, else-is_put_between}
use Rattle.lin_queues.proofs.counts.puts_between.Goals as goal

pub loop-at-preserved : goal.loop-at-preserved
loop-at-preserved c =
    let Is = λ (x : ℕ). MayPutItem c.args.events.now c.args.item x × (x < c.args.places.now.upper) × (IsReturnedBy c.args.events.now x c.args.places.now.lower → ⊥) in
    let below = c.loop-at.invariant.0 in
    elim c.if-is_put_between.branch [
      | then-is_put_between w ↦
          subst (λ k. (k ≤ c.loop-at.at + 1) × AtMost k (λ at. Is at × (at < c.loop-at.at + 1))) (sym w.puts-is)
          (omega (arith, below), most_more Is c.loop-at.puts c.loop-at.at c.loop-at.invariant.1)
      | else-is_put_between w ↦
          subst (λ k. (k ≤ c.loop-at.at + 1) × AtMost k (λ at. Is at × (at < c.loop-at.at + 1))) (sym w.puts-is)
          (omega (arith, below), most_same Is c.loop-at.puts c.loop-at.at c.loop-at.invariant.1 (c.is_put_between.ensures w.if-is_put_between.false))
    ]

pub returns : goal.returns
returns c =
    let ended = c.loop-at-test.false in
    most_of (λ x. MayPutItem c.args.events.now c.args.item x × (x < c.args.places.now.upper) × (IsReturnedBy c.args.events.now x c.args.places.now.lower → ⊥)) c.loop-at.puts c.loop-at.at c.loop-at.invariant.1
    (λ at is. let within = slice_get_within c.args.events.now at _ is.0.0.2 in omega (arith, ended, within))
