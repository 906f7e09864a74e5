use Rattle.std.proofs.Common.{◌≡◌, ◌&&◌, false, not, sym, ◌∙◌}
use Rattle.std.proofs.lemmas.List.Elements.{All-more}
use Rattle.lin_frontier.specs.declared.pending.Open.{Open}
use Rattle.lin_frontier.specs.lemmas.Each.{all_end}
use Rattle.lin_members.specs.lemmas.Pruned.{none_waits}
use Rattle.lin_members.proofs.watching.may_be_watched.Goals as goal

pub loop-operation-preserved : goal.loop-operation-preserved
loop-operation-preserved g c =
    let same = c.as_slice-operation-items.ensures in
    All-more (λ (o : Open). (g.O.SeqObject.observing c.args.object.now o.call && not o.crashed) ≡ false) c.args.pending.now c.loop-operation.operation-index _
    (rw same at c.loop-operation-test.true) c.loop-operation.invariant (sym (rw same at c.may_watch.ensures) ∙ c.if-may_watch.false)

pub returns : goal.returns
returns g c _ q =
    let same = c.as_slice-operation-items.ensures in
    none_waits (g.O.SeqObject.observing c.args.object.now) c.args.pending.now
    (all_end (λ (o : Open). (g.O.SeqObject.observing c.args.object.now o.call && not o.crashed) ≡ false) c.args.pending.now c.loop-operation.operation-index (rw same at c.loop-operation-test.false)
    c.loop-operation.invariant) q
