use Rattle.std.proofs.Common.{inr}
use Rattle.lin_frontier.specs.lemmas.Answered.{if_ok_weaker}
use Rattle.lin_compressed_frontier.proofs.Shadowing.{fewer_from}
use Rattle.lin_compressed_frontier.proofs.thinning.thin_members.Goals as goal

pub returns : goal.returns
returns g c =
    let first = c.in_ok-first.first.items in
    let others = c.in_ok-others.others.items in
    let kept = c.in_ok-kept.kept.items in
    let fewer = c.in_ok-fewer.fewer.items in
    let sound = rw c.deref.ensures.value at c.in_ok-others.ensures.sound in
    let complete = rw c.deref.ensures.value at c.in_ok-others.ensures.complete in
    let from = rw c.deref-2.ensures.value at c.in_ok-fewer.ensures.sound in
    let picks = rw c.deref-2.ensures.value at (rw c.deref-3.ensures.value at c.in_ok-fewer.ensures.complete) in
    if_ok_weaker _ _ (λ out says. inr (
      first,
      fewer,
      c.in_ok-first.ensures,
      fewer_from c.args.pending.now first (g.O.SeqObject.observing c.args.object.now) others kept fewer sound complete c.in_ok-kept.ensures from picks,
      says,
    )) c.pruned_several-3.result c.pruned_several-3.ensures
