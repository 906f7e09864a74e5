use Rattle.std.proofs.Common.{◌∙◌, sym}
use Rattle.lin_frontier.specs.lemmas.Closing.{any_default}
use Rattle.lin_possibilities.proofs.Growing.{watching_start, watching_put, watching_skip, watching_end}
use Rattle.lin_possibilities.proofs.telling.Telling.observers.Goals as goal

pub loop-operation-init : goal.loop-operation-init
loop-operation-init g c = watching_start (g.O.SeqObject.observing c.args.self.now.object.now) c.args.self.now.pending.now _ c.new-found.ensures.items

pub loop-operation-preserved-then-not-watches : goal.loop-operation-preserved-then-not-watches
loop-operation-preserved-then-not-watches g c = watching_skip (g.O.SeqObject.observing c.args.self.now.object.now) c.args.self.now.pending.now c.loop-operation.operation-index _ c.loop-operation-test.true
    (any_default _ _ _ _ c.loop-operation-test.true) c.loop-operation.found.items (sym c.watches.ensures ∙ c.if-not-watches.true) c.loop-operation.invariant

pub loop-operation-preserved : goal.loop-operation-preserved
loop-operation-preserved g c = watching_put (g.O.SeqObject.observing c.args.self.now.object.now) c.args.self.now.pending.now c.loop-operation.operation-index _ c.loop-operation-test.true
    (any_default _ _ _ _ c.loop-operation-test.true) c.loop-operation.found.items c.push.new.self.items c.in_ok-push.ensures.items c.loop-operation.invariant

pub returns : goal.returns
returns g c = watching_end _ _ c.loop-operation.operation-index c.loop-operation.found.items c.loop-operation-test.false c.loop-operation.invariant
