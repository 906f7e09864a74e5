use Rattle.std.proofs.Common.{◌∙◌, arith}
use Rattle.lin_texts.proofs.TooLarge.{number_of-overflows}
use Rattle.lin_texts.proofs.integers.number.Goals as goal

pub returns-in_err-checked_mul : goal.returns-in_err-checked_mul
returns-in_err-checked_mul c =
    c.from_residual.ensures ∙ number_of-overflows c.args.most c.loop-byte.value c.loop-byte.byte-index c.args.text.now (omega arith) c.loop-byte.invariant.value (omega arith)

pub returns-in_err-value : goal.returns-in_err-value
returns-in_err-value c =
    c.from_residual-in_err-value.ensures ∙ number_of-overflows c.args.most c.loop-byte.value c.loop-byte.byte-index c.args.text.now (omega arith) c.loop-byte.invariant.value (omega arith)
