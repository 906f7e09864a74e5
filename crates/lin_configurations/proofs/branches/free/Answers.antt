use Rattle.std.proofs.Common.{ap, ◌∙◌, arith}
use Rattle.std.proofs.lemmas.Grind.{common_steps}
use Rattle.lin_configurations.specs.inner.Branches.{IsFree}
use Rattle.lin_configurations.proofs.Branched.{picked_in, picked_out}
use Rattle.lin_configurations.proofs.branches.free.Goals.{then-is_free+in_ok-push, else-is_free}
use Rattle.lin_configurations.proofs.branches.free.Goals as goal

pub loop-operation-preserved : goal.loop-operation-preserved
loop-operation-preserved g c =
    let holds = IsFree (g.O.SeqObject.total c.args.object.now) c.args.placed.now in
    elim c.if-is_free.branch [
      | then-is_free+in_ok-push w ↦ picked_in holds c.args.pending.now c.loop-operation.operation-index _ c.loop-operation-test.true c.loop-operation.out.items c.if-is_free.out.items
          (ap (λ l. l.items) w.out-is ∙ w.in_ok-push.ensures.items) (c.is_free.ensures w.if-is_free.true) c.loop-operation.invariant
      | else-is_free w ↦ picked_out holds c.args.pending.now c.loop-operation.operation-index c.loop-operation-test.true c.loop-operation.out.items c.if-is_free.out.items (ap (λ l. l.items) w.out-is) c.loop-operation.invariant
    ]

pub returns : goal.returns
returns g c = grind (arith, common_steps)
