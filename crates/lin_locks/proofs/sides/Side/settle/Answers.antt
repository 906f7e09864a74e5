use Rattle.std.proofs.Common.{◌+◌, drop, Some, sym, ap, ◌∙◌, arith}
use Rattle.std.proofs.lemmas.Option.{slice_get-get_or}
use Rattle.lin_locks.proofs.Filled.{settled_one, settled_past}
use Rattle.lin_locks.specs.inner.Fillings.{settled}
use Rattle.lin_locks.proofs.sides.Side.settle.Goals.{then-at-len, else-at-len}
use Rattle.lin_locks.proofs.sides.Side.settle.Goals as goal

pub loop-at-preserved : goal.loop-at-preserved
loop-at-preserved c =
    let debts = c.args.self.now.debts.items in
    let opens = c.args.self.now.open.items in
    let at = c.loop-at.at in
    elim c.if-at-len.branch [
      | then-at-len w ↦
          let debt = w.index.result.now in
          let begin = w.index-then-at-len.result.now in
          ap (λ v. settled (drop (at + 1) debts) (drop (at + 1) opens) v.items) w.order-is
          ∙ ap (settled (drop (at + 1) debts) (drop (at + 1) opens)) w.fill.ensures
          ∙ settled_one debts opens c.loop-at.order.items at debt begin
          (slice_get-get_or debts at debt (omega arith) ∙ ap Some (sym w.index.ensures))
          (slice_get-get_or opens at begin (omega arith) ∙ ap Some (sym w.index-then-at-len.ensures))
          ∙ c.loop-at.invariant
      | else-at-len w ↦
          ap (λ v. settled (drop (at + 1) debts) (drop (at + 1) opens) v.items) w.order-is
          ∙ settled_past debts opens c.loop-at.order.items at (omega arith)
          ∙ c.loop-at.invariant
    ]
