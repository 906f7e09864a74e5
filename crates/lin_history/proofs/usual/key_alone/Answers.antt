use Rattle.std.proofs.Common.{pos, subst, sym}
use Rattle.lin_names.specs.Spelled.{number, seen}
use Rattle.lin_history.specs.Table.{bare, or_nil}
use Rattle.lin_history.specs.inner.Usual.{AreParts}
use Rattle.lin_history.proofs.Usuals.{key_parts, whole_parts}
use Rattle.lin_history.proofs.usual.key_alone.Goals as goal

pub returns-then-not-keyed : goal.returns-then-not-keyed
returns-then-not-keyed c = λ levels vs low there.
    (or_nil vs, subst (λ k. AreParts k vs (number (pos 0)) (or_nil vs)) (sym c.if-not-keyed.true) (whole_parts c.args.text.now levels vs c.args.place there))

pub returns : goal.returns
returns c = λ levels vs low there.
    let key = seen c.in_ok-key.key in
    let pair = c.in_ok-key.ensures in
    let parts = key_parts c.elements_are_unique.ensures c.args.text.now levels vs c.args.place key pair.0 c.in_ok-key.field-0-1 low there pair.1 in
    (bare pair.0, subst (λ k. AreParts k vs key (bare pair.0)) (sym c.if-not-keyed.false) parts)
