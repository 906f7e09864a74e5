use Rattle.std.proofs.Common.{refl, ◌∙◌}
use Rattle.lin_frontier.specs.Placing.{PlacesOne}
use Rattle.lin_frontier.specs.lemmas.Trying.{tried_none, tried_more, tried_full}
use Rattle.lin_possibilities.proofs.telling.Telling.placings.Goals as goal

pub loop-operation-init : goal.loop-operation-init
loop-operation-init g c = record {
  tried = tried_none _ _ _ refl c.new-out.ensures.items;
  steps = refl;
  scans = refl;
}

pub loop-operation-preserved : goal.loop-operation-preserved
loop-operation-preserved g c = record {
  tried = tried_more (λ o p d. PlacesOne (g.O.SeqObject.step c.args.self.now.object.now) o c.args.config.now p d) c.args.operations.now
      c.loop-operation.operation-index _ c.loop-operation.out.items c.place_if_absent.new.out.items c.loop-operation-test.true c.in_ok-place_if_absent.ensures.placed c.loop-operation.invariant.tried;
  steps = c.place_if_absent.ensures.tried.steps ∙ c.loop-operation.invariant.steps;
  scans = c.place_if_absent.ensures.tried.scans ∙ c.loop-operation.invariant.scans;
}

pub returns-clause-sound : goal.returns-clause-sound
returns-clause-sound g c d p there =
    let all = tried_full _ c.args.operations.now c.loop-operation.operation-index c.loop-operation.out.items c.loop-operation-test.false c.loop-operation.invariant.tried in
    all.sound (d, p) there

pub returns-clause-complete : goal.returns-clause-complete
returns-clause-complete g c o p d there one =
    let all = tried_full _ c.args.operations.now c.loop-operation.operation-index c.loop-operation.out.items c.loop-operation-test.false c.loop-operation.invariant.tried in
    all.complete o p d there one
