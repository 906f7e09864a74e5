use Rattle.std.proofs.Common.{ℕ, ◌≤◌, List, IfSome, sym, subst}
use Rattle.lin_edn.specs.Value.{Value}
use Rattle.lin_history.specs.Reading.{Reading, IsReading}
use Rattle.lin_names.specs.Spelled.{seen}
use Rattle.lin_edn.specs.View.{view}
use Rattle.lin_history.specs.inner.Usual.{AreParts, IsPlaced, TellsWith}
use Rattle.lin_history.proofs.usual.element_event.Goals as goal

pub returns-then-not-is_value_told-clause-told : goal.returns-then-not-is_value_told-clause-told
returns-then-not-is_value_told-clause-told c =
    let doing = c.args.doing in
    subst (λ p. IfSome c.valueless_event.result (λ told. (m : Reading) → IsReading c.args.keyed c.valueless_event.new.names m → (levels : ℕ) (vs : List Value) → levels ≤ 64 →
    IsPlaced c.args.text.now levels vs p → TellsWith m doing.process doing.event_type doing.name vs told)) (sym c.in_ok-place.was) c.valueless_event.ensures.told

pub returns-clause-told : goal.returns-clause-told
returns-clause-told c = λ m is levels vs low there.
    let parts = c.in_ok-key.ensures levels vs low (subst (IsPlaced c.args.text.now levels vs) c.in_ok-place.was there) in
    c.in_ok-told.ensures.told m is.1 vs (subst (λ k. AreParts k vs (seen c.in_ok-key.key) (view c.in_ok-key.value)) (sym is.0) parts)
