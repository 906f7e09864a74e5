use Rattle.std.proofs.Common.{◌+◌, ap, sym, ◌∙◌, get_or, drop}
use Rattle.lin_edn.proofs.Digits.{one_more, too_great}
use Rattle.lin_bytes.specs.Bytes.{is_digit}
use Rattle.lin_edn.specs.inner.Numbers.{capped}
use Rattle.lin_edn.proofs.run.number.Goals as goal

pub returns-then-value-gt1000000000000000000 : goal.returns-then-value-gt1000000000000000000
returns-then-value-gt1000000000000000000 c =
    let digits = c.args.digits.now in
    let i = c.loop-digit.digit-index in
    sym (ap capped (c.loop-digit.invariant ∙ one_more digits c.loop-digit.value i c.loop-digit-test.true)
    ∙ too_great (is_digit (get_or digits i 0)) c.loop-digit.value (get_or digits i 0) (drop (i + 1) digits) c.if-value-gt1000000000000000000.true)
