use Rattle.std.proofs.Common.{refl, sym, ◌∙◌, true≢false, arith, ◌+◌}
use Rattle.std.proofs.lemmas.Result.{IfOk-from_err}
use Rattle.lin_frontier.specs.Placing.{PlacesOne}
use Rattle.lin_frontier.specs.lemmas.Counting.{tried_none as counted_none, tried_more as counted_more}
use Rattle.lin_frontier.proofs.Outcomes.{alone_sound, alone_complete, behind_sound, behind_complete}
use Rattle.lin_frontier.specs.lemmas.Trying.{tried_none, tried_more, tried_full}
use Rattle.lin_frontier.proofs.placing.PlacingSteps.outcomes.Goals as goal

pub returns-then-is_absent-clause-sound : goal.returns-then-is_absent-clause-sound
returns-then-is_absent-clause-sound g c = alone_sound _ _ _ _ _ _ c.new-out.ensures.items c.in_ok-place.ensures.placed

pub returns-then-is_absent-clause-complete : goal.returns-then-is_absent-clause-complete
returns-then-is_absent-clause-complete g c = alone_complete _ _ _ _ _ _ (rw c.placed.ensures at (c.is_absent.ensures.0 c.if-is_absent.true)) c.in_ok-place.ensures.placed

pub loop-operation-init : goal.loop-operation-init
loop-operation-init g c = record { all = tried_none _ _ _ refl c.new-out.ensures.items; tried = counted_none _ _ }

pub loop-operation-preserved : goal.loop-operation-preserved
loop-operation-preserved g c = record {
  all = tried_more (λ o. PlacesOne (g.O.SeqObject.step c.args.self.now.object.now) o c.args.state.now) c.args.self.now.pending.now c.loop-operation.operation-index _ _ _
      c.loop-operation-test.true c.in_ok-place_if_absent.ensures.placed c.loop-operation.invariant.all;
  tried = counted_more c.loop-operation.operation-index 1 (c.loop-operation.operation-index + 1) _ _ _ (omega arith) c.loop-operation.invariant.tried c.place_if_absent.ensures.tried;
}

pub returns-clause-sound : goal.returns-clause-sound
returns-clause-sound g c =
    let full = tried_full (λ o. PlacesOne (g.O.SeqObject.step c.args.self.now.object.now) o c.args.state.now) c.args.self.now.pending.now c.loop-operation.operation-index _ c.loop-operation-test.false c.loop-operation.invariant.all in
    behind_sound _ _ _ _ _ (λ absent. true≢false (sym (c.is_absent.ensures.1 (rw (sym c.placed.ensures) at absent)) ∙ c.if-is_absent.false)) full

pub returns-clause-complete : goal.returns-clause-complete
returns-clause-complete g c =
    let full = tried_full (λ o. PlacesOne (g.O.SeqObject.step c.args.self.now.object.now) o c.args.state.now) c.args.self.now.pending.now c.loop-operation.operation-index _ c.loop-operation-test.false c.loop-operation.invariant.all in
    behind_complete _ _ _ _ _ (λ absent. true≢false (sym (c.is_absent.ensures.1 (rw (sym c.placed.ensures) at absent)) ∙ c.if-is_absent.false)) full

pub returns-in_err-place_if_absent-clause-sound : goal.returns-in_err-place_if_absent-clause-sound
returns-in_err-place_if_absent-clause-sound g c = IfOk-from_err _ _ c.from_residual-in_err-place_if_absent.ensures.0

pub returns-in_err-place_if_absent-clause-complete : goal.returns-in_err-place_if_absent-clause-complete
returns-in_err-place_if_absent-clause-complete g c = IfOk-from_err _ _ c.from_residual-in_err-place_if_absent.ensures.0
