use Rattle.std.proofs.Common.{sym, ap, ◌∙◌, true≢false}
use Rattle.std.proofs.lemmas.List.{take_all}
use Rattle.lin_members.specs.Asking.{early_of}
use Rattle.lin_compressed_frontier.proofs.Placings.{early_in, early_out}
use Rattle.lin_compressed_frontier.proofs.asking.operations_before.Goals.{then-is_early+in_ok-push, else-is_early}
use Rattle.lin_compressed_frontier.proofs.asking.operations_before.Goals as goal

pub loop-operation-init : goal.loop-operation-init
loop-operation-init c = c.requires

pub loop-operation-preserved : goal.loop-operation-preserved
loop-operation-preserved c =
    let xs = c.args.pending.now in
    let i = c.loop-operation.operation-index in
    elim c.if-is_early.branch [
      | then-is_early+in_ok-push w ↦ early_in c.args.until xs i _ c.loop-operation-test.true c.loop-operation.out.items c.loop-operation.invariant c.if-is_early.out.items (c.is_early.ensures.0 w.if-is_early.true)
          (ap (λ l. l.items) w.out-is ∙ w.in_ok-push.ensures.items)
      | else-is_early w ↦ early_out c.args.until xs i _ c.loop-operation-test.true c.loop-operation.out.items c.loop-operation.invariant c.if-is_early.out.items
          (λ before. true≢false (sym (c.is_early.ensures.1 before) ∙ w.if-is_early.false)) (ap (λ l. l.items) w.out-is)
    ]

pub returns : goal.returns
returns c = c.loop-operation.invariant ∙ ap (early_of c.args.until) (take_all c.loop-operation.operation-index c.args.pending.now c.loop-operation-test.false)
