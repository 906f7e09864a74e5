use Rattle.std.proofs.Common.{◌≡◌, ℕ, refl}
use Rattle.std.proofs.lemmas.List.Elements.{All-contains}
use Rattle.lin_events.specs.declared.calls.Reply.{Reply}
use Rattle.lin_members.specs.Batches.{all_of}
use Rattle.lin_members.proofs.Batching.{each_end, each_more, inside_all, never_offered}
use Rattle.lin_members.proofs.batches.round_among.Goals as goal

pub returns-in-Some-clause-some : goal.returns-in-Some-clause-some
returns-in-Some-clause-some c =
    inside_all c.args.batches.now c.loop-batch.batch-index c.batch-item.result (c.in-Some.round, (c.args.process, c.args.reply.now)) c.loop-batch-test.true c.batch-item.is (rw (c.as_slice.ensures, c.as_ref.ensures) at c.in-Some.ensures.some)

pub loop-batch-preserved : goal.loop-batch-preserved
loop-batch-preserved c =
    each_more (λ (o : ℕ × (ℕ × Reply)). o.1 ≡ (c.args.process, c.args.reply.now) → ⊥) c.args.batches.now c.loop-batch.batch-index c.batch-item.result c.loop-batch-test.true c.batch-item.is c.loop-batch.invariant
    (never_offered c.batch-item.result.value c.args.process c.args.reply.now (rw (c.as_slice.ensures, c.as_ref.ensures) at c.in_default.ensures.none))

pub returns-clause-none : goal.returns-clause-none
returns-clause-none c round inside =
    All-contains (λ (o : ℕ × (ℕ × Reply)). o.1 ≡ (c.args.process, c.args.reply.now) → ⊥) (all_of c.args.batches.now) (round, (c.args.process, c.args.reply.now))
    (each_end (λ (o : ℕ × (ℕ × Reply)). o.1 ≡ (c.args.process, c.args.reply.now) → ⊥) c.args.batches.now c.loop-batch.batch-index c.loop-batch-test.false c.loop-batch.invariant) inside refl
