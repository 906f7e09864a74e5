use Rattle.std.proofs.Common.{◌++◌, ap, sym, ◌∙◌}
use Rattle.lin_members.proofs.Batching.{all_of_more}
use Rattle.lin_members.proofs.batches.one_of.Goals as goal

pub loop-batch-preserved : goal.loop-batch-preserved
loop-batch-preserved c =
    c.in_ok-append.ensures ∙ ap (λ l. c.loop-batch.one ++ l) (c.as_slice.ensures ∙ c.as_ref.ensures) ∙ ap (λ l. l ++ c.batch-item.result.value) c.loop-batch.invariant
    ∙ sym (all_of_more c.args.batches.now c.loop-batch.batch-index c.batch-item.result c.loop-batch-test.true c.batch-item.is)
