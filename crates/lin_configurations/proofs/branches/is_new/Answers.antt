use Rattle.std.proofs.Common.{◌≢◌, All, subst, sym, ◌∙◌, true≢false}
use Rattle.std.proofs.lemmas.List.{take_all}
use Rattle.std.proofs.lemmas.List.Elements.{All-more}
use Rattle.lin_frontier.specs.declared.pending.Open.{Open}
use Rattle.lin_configurations.proofs.branches.is_new.Goals as goal

pub loop-operation-preserved : goal.loop-operation-preserved
loop-operation-preserved c =
    All-more (λ (o : Open). o.call ≢ c.args.call.now) c.args.operations.now c.loop-operation.operation-index _ c.loop-operation-test.true c.loop-operation.invariant
    (λ same. true≢false (sym (c.is_of.ensures.1 same) ∙ c.if-is_of.false))

pub returns : goal.returns
returns c _ = subst (All (λ (o : Open). o.call ≢ c.args.call.now)) (take_all c.loop-operation.operation-index c.args.operations.now c.loop-operation-test.false) c.loop-operation.invariant
