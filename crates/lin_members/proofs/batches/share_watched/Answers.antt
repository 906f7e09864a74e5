use Rattle.std.proofs.Common.{◌++◌, ap, sym, ◌∙◌}
use Rattle.std.proofs.lemmas.List.{append_assoc}
use Rattle.lin_members.specs.Batches.{all_of}
use Rattle.lin_members.specs.Searching.{watched}
use Rattle.lin_members.proofs.Batching.{watched_more}
use Rattle.lin_members.proofs.batches.share_watched.Goals as goal

pub loop-other-preserved : goal.loop-other-preserved
loop-other-preserved g c =
    let before = all_of c.args.batches.now.items in
    let here = watched (g.O.SeqObject.observing c.args.object.now) c.args.pending.now c.other-item.result.value in
    c.in_ok-push_batch.ensures ∙ ap (λ l. all_of c.loop-other.batches.items ++ l) c.in_ok-kept.ensures ∙ ap (λ l. l ++ here) c.loop-other.invariant ∙ append_assoc before _ here
    ∙ ap (λ l. before ++ l)
    (sym (watched_more (g.O.SeqObject.observing c.args.object.now) c.args.pending.now c.args.others.now c.loop-other.other-index c.other-item.result c.loop-other-test.true c.other-item.is))
