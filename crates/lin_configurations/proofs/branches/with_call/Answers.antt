use Rattle.std.proofs.Common.{◌≡◌, ap, ◌∙◌}
use Rattle.lin_frontier.specs.declared.pending.Open.{Open}
use Rattle.lin_configurations.proofs.Branched.{picked_all, picked_in, picked_out}
use Rattle.lin_configurations.proofs.branches.with_call.Goals.{then-is_of+in_ok-push, else-is_of}
use Rattle.lin_configurations.proofs.branches.with_call.Goals as goal

pub loop-operation-preserved : goal.loop-operation-preserved
loop-operation-preserved c =
    elim c.if-is_of.branch [
      | then-is_of+in_ok-push w ↦ picked_in (λ (o : Open). o.call ≡ c.args.call.now) c.args.operations.now c.loop-operation.operation-index _ c.loop-operation-test.true c.loop-operation.out.items c.if-is_of.out.items
          (ap (λ l. l.items) w.out-is ∙ w.in_ok-push.ensures.items) (c.is_of.ensures.0 w.if-is_of.true) c.loop-operation.invariant
      | else-is_of w ↦ picked_out (λ (o : Open). o.call ≡ c.args.call.now) c.args.operations.now c.loop-operation.operation-index c.loop-operation-test.true c.loop-operation.out.items c.if-is_of.out.items
          (ap (λ l. l.items) w.out-is) c.loop-operation.invariant
    ]

pub returns : goal.returns
returns c = picked_all (λ (o : Open). o.call ≡ c.args.call.now) c.args.operations.now c.loop-operation.operation-index c.loop-operation.out.items c.loop-operation-test.false c.loop-operation.invariant
