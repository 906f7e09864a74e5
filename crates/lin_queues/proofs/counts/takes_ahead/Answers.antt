use Rattle.std.proofs.Common.{◌<◌, ◌≤◌, ◌+◌, ℕ, arith, sym, subst}
use Rattle.std.proofs.lemmas.Option.{slice_get_within}
use Rattle.lin_certificates.specs.Numbers.{AtMost}
use Rattle.lin_certificates.specs.lemmas.Counting.{most_more, most_of, most_same}
use Rattle.lin_queues.specs.Ranks.{MayTake}
use Rattle.lin_queues.proofs.counts.takes_ahead.Goals.{then-is_taken_ahead, else-is_taken_ahead}
use Rattle.lin_queues.proofs.counts.takes_ahead.Goals as goal

pub loop-at-preserved : goal.loop-at-preserved
loop-at-preserved c =
    let Is = λ (x : ℕ). MayTake c.args.events.now x × (x < c.args.place) in
    let below = c.loop-at.invariant.0 in
    elim c.if-is_taken_ahead.branch [
      | then-is_taken_ahead w ↦
          subst (λ k. (k ≤ c.loop-at.at + 1) × AtMost k (λ at. Is at × (at < c.loop-at.at + 1))) (sym w.takes-is)
          (omega (arith, below), most_more Is c.loop-at.takes c.loop-at.at c.loop-at.invariant.1)
      | else-is_taken_ahead w ↦
          subst (λ k. (k ≤ c.loop-at.at + 1) × AtMost k (λ at. Is at × (at < c.loop-at.at + 1))) (sym w.takes-is)
          (omega (arith, below), most_same Is c.loop-at.takes c.loop-at.at c.loop-at.invariant.1 (c.is_taken_ahead.ensures w.if-is_taken_ahead.false))
    ]

pub returns : goal.returns
returns c =
    let ended = c.loop-at-test.false in
    most_of (λ x. MayTake c.args.events.now x × (x < c.args.place)) c.loop-at.takes c.loop-at.at c.loop-at.invariant.1
    (λ at is. let within = slice_get_within c.args.events.now at _ is.0.0.2 in omega (arith, ended, within))
