use Rattle.std.proofs.Common.{◌≢◌, AllPairs, subst, sym, ap, ◌∙◌, arith}
use Rattle.std.proofs.lemmas.Grind.{common_steps}
use Rattle.lin_frontier.specs.declared.pending.Open.{Open}
use Rattle.lin_configurations.specs.inner.Branches.{IsUntold}
use Rattle.lin_configurations.proofs.Branched.{differ_push, picked_in, picked_out}
use Rattle.lin_configurations.proofs.branches.one_of_each_call.Goals.{then-is_untold+then-is_new+in_ok-push, else-is_untold}
use Rattle.lin_configurations.proofs.branches.one_of_each_call.Goals as goal

pub loop-operation-preserved : goal.loop-operation-preserved
loop-operation-preserved g c =
    let holds = IsUntold (g.O.SeqObject.shown c.args.object.now) (g.O.SeqObject.having c.args.object.now) c.args.state.now c.args.reads.now in
    let xs = c.args.operations.now in
    let i = c.loop-operation.operation-index in
    elim c.if-is_untold.branch [
      | then-is_untold+then-is_new+in_ok-push w ↦ record {
        picked = picked_in holds xs i _ c.loop-operation-test.true c.loop-operation.out.items c.if-is_untold.out.items (ap (λ l. l.items) w.out-is ∙ w.in_ok-push.ensures.items) (c.is_untold.ensures w.if-is_untold.true) c.loop-operation.invariant.picked;
        differ = differ_push c.loop-operation.out.items c.if-is_untold.out.items _ (ap (λ l. l.items) w.out-is ∙ w.in_ok-push.ensures.items) (rw w.deref.ensures.value at w.is_new.ensures w.if-is_new.true) c.loop-operation.invariant.differ;
      }
      | else-is_untold w ↦ record {
        picked = picked_out holds xs i c.loop-operation-test.true c.loop-operation.out.items c.if-is_untold.out.items (ap (λ l. l.items) w.out-is) c.loop-operation.invariant.picked;
        differ = subst (AllPairs (λ (o p : Open). o.call ≢ p.call)) (sym (ap (λ l. l.items) w.out-is)) c.loop-operation.invariant.differ;
      }
    ]

pub returns-clause-picked : goal.returns-clause-picked
returns-clause-picked g c = grind (arith, common_steps)
