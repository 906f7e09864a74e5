use Rattle.std.proofs.Common.{◌++◌, ap, sym, ◌∙◌, take, drop}
use Rattle.std.proofs.lemmas.List.{append_assoc}
use Rattle.lin_members.specs.Batches.{all_of}
use Rattle.lin_members.proofs.Batching.{all_of_cut}
use Rattle.lin_members.proofs.batches.put_aside.Goals as goal

pub returns : goal.returns
returns c =
    let old = c.args.batches.now.items in
    let from = c.first_small-from.result in
    let behind = c.suffix_from.ensures ∙ ap (drop from) c.as_slice-2.ensures.value in
    c.in_ok-push_batch.ensures ∙ ap (λ l. all_of l ++ c.in_ok-batch.batch.value) c.truncate.ensures.items
    ∙ ap (λ l. all_of (take from old) ++ l) (c.in_ok-batch.ensures.ok ∙ c.in_ok-one.ensures ∙ ap (λ l. all_of l ++ c.args.offers.now) behind)
    ∙ sym (append_assoc (all_of (take from old)) (all_of (drop from old)) c.args.offers.now) ∙ ap (λ l. l ++ c.args.offers.now) (all_of_cut old from)
