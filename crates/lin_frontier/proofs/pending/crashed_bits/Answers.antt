use Rattle.std.proofs.Common.{ap, sym, take, ◌∙◌}
use Rattle.std.proofs.lemmas.List.{take_more}
use Rattle.std.specs.Int.Bits.{bit_or}
use Rattle.lin_frontier.specs.Masks.{crashed_bits}
use Rattle.lin_frontier.specs.lemmas.Masking.{crashed_push, crashed_pass}
use Rattle.lin_frontier.proofs.pending.crashed_bits.Goals.{then-operation, else-operation}
use Rattle.lin_frontier.proofs.pending.crashed_bits.Goals as goal

pub loop-operation-preserved : goal.loop-operation-preserved
loop-operation-preserved c =
    let xs = c.args.operations.now in
    let i = c.loop-operation.operation-index in
    let more = ap crashed_bits (sym (take_more xs i _ c.loop-operation-test.true)) in
    elim c.if-operation.branch [
      | then-operation w ↦
          w.bits-is ∙ ap (λ m. bit_or m w.bit_of-bits.result) c.loop-operation.invariant ∙ ap (bit_or (crashed_bits (take i xs))) w.bit_of-bits.ensures ∙ sym (crashed_push (take i xs) _ w.if-operation.true) ∙ more
      | else-operation w ↦ w.bits-is ∙ c.loop-operation.invariant ∙ sym (crashed_pass (take i xs) _ w.if-operation.false) ∙ more
    ]
