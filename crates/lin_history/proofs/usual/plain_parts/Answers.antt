use Rattle.std.proofs.Common.{pos, sym, subst}
use Rattle.lin_edn.specs.Value.{nil}
use Rattle.lin_names.specs.Spelled.{number, seen}
use Rattle.lin_history.specs.inner.Fields.{plain_view, value_of}
use Rattle.lin_history.specs.inner.Usual.{IsPlaced, AreParts}
use Rattle.lin_history.proofs.Usuals.{no_parts, plain_pair_parts}
use Rattle.lin_history.proofs.usual.plain_parts.Goals as goal

pub returns-in_default : goal.returns-in_default
returns-in_default c = λ levels vs low there.
    subst (λ k. AreParts k vs (number (pos 0)) nil) (sym c.if-keyed.false) (no_parts vs (subst (IsPlaced c.args.text.now levels vs) c.in_default.is there))

pub returns-then-keyed-2 : goal.returns-then-keyed-2
returns-then-keyed-2 c = λ levels vs low there.
    let s = c.args.text.now in
    let key = seen c.in_ok-key.key in
    let plain = plain_view c.in_ok-key.plain in
    let pair = c.in_ok-key.ensures in
    subst (λ k. AreParts k vs key (value_of plain)) (sym c.if-keyed-2.true)
    (plain_pair_parts c.elements_are_unique.ensures s levels vs c.in-Some.place key pair.0 plain c.in_ok-key.field-0-2 low (subst (IsPlaced s levels vs) c.in-Some.is there) pair.1 pair.2 pair.3)

pub returns : goal.returns
returns c = λ levels vs low there.
    subst (λ k. AreParts k vs (number (pos 0)) (value_of (plain_view c.in_ok-plain.plain))) (sym c.if-keyed-2.false)
    (c.in_ok-plain.ensures levels vs low (subst (IsPlaced c.args.text.now levels vs) c.in-Some.is there))
