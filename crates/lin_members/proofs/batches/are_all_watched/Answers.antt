use Rattle.lin_members.proofs.Batching.{watched_same_more}
use Rattle.lin_members.proofs.batches.are_all_watched.Goals as goal

pub loop-batch-preserved : goal.loop-batch-preserved
loop-batch-preserved g c =
    watched_same_more (g.O.SeqObject.observing c.args.object.now) c.args.pending.now c.args.batches.now c.loop-batch.batch-index c.batch-item.result c.loop-batch-test.true c.batch-item.is c.loop-batch.invariant
    ((rw c.as_ref.ensures at c.is_watched.ensures) c.if-not-is_watched.false)
