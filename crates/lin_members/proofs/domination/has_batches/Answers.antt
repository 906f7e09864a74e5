use Rattle.std.proofs.Common.{◌≡◌, ℕ, refl, sym, ◌∙◌, true, true≢false}
use Rattle.lin_events.specs.declared.calls.Reply.{Reply}
use Rattle.lin_members.specs.Members.{IsOnOffer}
use Rattle.lin_frontier.specs.Placing.{IsAbsent}
use Rattle.lin_members.specs.Searching.{is_watching}
use Rattle.lin_members.proofs.Batching.{each_end, each_more, each_of_one}
use Rattle.lin_members.proofs.domination.has_batches.Goals as goal

pub returns-then-not-has_all : goal.returns-then-not-has_all
returns-then-not-has_all g c =
    let has = rw (c.as_slice.ensures, c.as_ref.ensures) at c.has_all.ensures in (
      λ t. absurd (true≢false (sym t)),
      λ all. absurd (true≢false (sym (has.1 (each_of_one (λ (x : ℕ × (ℕ × Reply)). is_watching (g.O.SeqObject.observing c.args.object.now) c.args.pending.now x.1.0 ≡ true → IsAbsent x.1.0 c.args.member.now.0.placed → IsOnOffer c.args.member.now.0 x.1) c.args.batches.now c.loop-batch.batch-index c.batch-item.result c.loop-batch-test.true c.batch-item.is all)) ∙ c.if-not-has_all.true)),
    )

pub loop-batch-preserved : goal.loop-batch-preserved
loop-batch-preserved g c =
    let has = rw (c.as_slice.ensures, c.as_ref.ensures) at c.has_all.ensures in
    each_more (λ (x : ℕ × (ℕ × Reply)). is_watching (g.O.SeqObject.observing c.args.object.now) c.args.pending.now x.1.0 ≡ true → IsAbsent x.1.0 c.args.member.now.0.placed → IsOnOffer c.args.member.now.0 x.1) c.args.batches.now c.loop-batch.batch-index c.batch-item.result c.loop-batch-test.true c.batch-item.is c.loop-batch.invariant (has.0 c.if-not-has_all.false)

pub returns : goal.returns
returns g c = (
  λ _. each_end (λ (x : ℕ × (ℕ × Reply)). is_watching (g.O.SeqObject.observing c.args.object.now) c.args.pending.now x.1.0 ≡ true → IsAbsent x.1.0 c.args.member.now.0.placed → IsOnOffer c.args.member.now.0 x.1) c.args.batches.now c.loop-batch.batch-index c.loop-batch-test.false c.loop-batch.invariant,
  λ _. refl,
)
