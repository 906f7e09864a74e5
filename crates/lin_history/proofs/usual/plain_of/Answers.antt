use Rattle.std.proofs.Common.{◌≡◌, ℕ, pos, ◌≤◌, false, List, Some}
use Rattle.std.proofs.lemmas.Option.{IfSome_then}
use Rattle.lin_edn.specs.Run.{run_value}
use Rattle.lin_edn.specs.Value.{Value}
use Rattle.lin_names.specs.Spelled.{number, seen}
use Rattle.lin_history.specs.inner.Fields.{plain_of, plain_view, value_of}
use Rattle.lin_history.specs.inner.Usual.{IsPlaced, AreParts}
use Rattle.lin_history.proofs.Usuals.{plain_parts, string_parts}
use Rattle.lin_history.proofs.usual.plain_of.Goals as goal

pub returns-in-Some : goal.returns-in-Some
returns-in-Some c =
    let at = c.args.place.at in
    let word = c.in-Some.word.now in
    IfSome_then c.plain_in.result {P = λ plain. (p : ℕ) → plain_of (run_value p word) ≡ Some (plain_view plain)}
    {Q = λ plain. (levels : ℕ) (vs : List Value) → levels ≤ 64 → IsPlaced c.args.text.now levels vs (Some c.args.place) → AreParts false vs (number (pos 0)) (value_of (plain_view plain))}
    c.plain_in.ensures (λ plain says levels vs low there. plain_parts vs (run_value at word) (plain_view plain) (c.in-Some.ensures levels vs there) (says at))

pub returns : goal.returns
returns c = λ levels vs low there.
    let item = c.in_ok-word.ensures.item in
    string_parts c.elements_are_unique.ensures c.args.text.now levels vs c.args.place item.0 (seen c.in_ok-word.word) c.in_ok-word.field-0-1 low there item.1 item.2 (item.3 2)
