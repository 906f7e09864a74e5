use Rattle.std.proofs.Common.{◌+◌, arith}
use Rattle.lin_frontier.specs.Placing.{PlacesOne}
use Rattle.lin_frontier.specs.lemmas.Counting.{tried_more as counted_more}
use Rattle.lin_frontier.specs.lemmas.Trying.{tried_more, tried_full}
use Rattle.lin_configurations.proofs.expansion.Expansion.placings.Goals as goal

pub loop-operation-preserved : goal.loop-operation-preserved
loop-operation-preserved g c = let same = c.as_slice-operation-items.ensures in record {
  placed = tried_more (λ o p d. PlacesOne (g.O.SeqObject.step c.args.self.now.object.now) o c.args.config.now p d) c.args.self.now.pending.now
      c.loop-operation.operation-index _ c.loop-operation.out.items c.place_if_absent.new.out.items (rw same at c.loop-operation-test.true) (rw same at c.in_ok-place_if_absent.ensures.placed) c.loop-operation.invariant.placed;
  tried = counted_more c.loop-operation.operation-index 1 (c.loop-operation.operation-index + 1) _ _ _ (omega arith) c.loop-operation.invariant.tried c.place_if_absent.ensures.tried;
}

pub returns-clause-sound : goal.returns-clause-sound
returns-clause-sound g c d p there =
    let all = tried_full _ c.args.self.now.pending.now c.loop-operation.operation-index c.loop-operation.out.items (rw c.as_slice-operation-items.ensures at c.loop-operation-test.false) c.loop-operation.invariant.placed in
    all.sound (d, p) there

pub returns-clause-complete : goal.returns-clause-complete
returns-clause-complete g c o p d there one =
    let all = tried_full _ c.args.self.now.pending.now c.loop-operation.operation-index c.loop-operation.out.items (rw c.as_slice-operation-items.ensures at c.loop-operation-test.false) c.loop-operation.invariant.placed in
    all.complete o p d there one
