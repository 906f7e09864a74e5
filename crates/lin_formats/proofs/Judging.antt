-- What is found of a history and an order is right to answer.
use Rattle.std.proofs.Common.{◌≡◌, ◌≤◌, ◌^◌, inr, Option, length, ◌↔◌, Bool, true, false, IsTrue, ℕ, List, sym, ◌∙◌, true≢false, subst}
use Rattle.std.specs.Global.{Vec}
use Rattle.std.specs.Io.KnownBytes.{Consumes, IsAtEnd}
use Rattle.lin_events.specs.declared.items.Item.{Item}
use Rattle.lin_events.specs.declared.events.Event.{Event}
use Rattle.lin_objects.specs.declared.kinds.Kind.{Kind}
use Rattle.lin_objects.specs.Kinds.{functions_of}
use Rattle.lin_events.specs.declared.shapes.Cause.{Cause}
use Rattle.lin_events.specs.declared.shapes.Shape.{Shape}
use Rattle.lin_events.specs.declared.shapes.Shape.TheVariants.{Good, Bad}
use Rattle.lin_events.specs.WellFormed.{IsShape}
use Rattle.lin_order.specs.declared.placed.Placed.{Placed}
use Rattle.lin_order.specs.Linearizable.{IsLegalOrder}
use Rattle.lin_names.specs.Names.{Begins}
use Rattle.lin_names.specs.lemmas.Begins.{agrees_before}
use Rattle.lin_formats.specs.Histories.{EndsFor, IsHistory}
use Rattle.lin_formats.specs.Inputs.{IsWhole}
use Rattle.lin_texts.specs.Orders.{IsOrderBy}
use Rattle.lin_formats.specs.Verdicts.{all_of, IsJudged, IsReadFor, IsVerifiedBy}
use Rattle.lin_formats.specs.lemmas.Reading.{stops_at_end}
use Rattle.lin_formats.specs.declared.inputs.History.{History}
use Rattle.lin_formats.specs.declared.inputs.History.TheVariants.{Whole}
use Rattle.lin_texts.specs.declared.settings.Settings.{Settings}
use Rattle.lin_formats.specs.declared.verdicts.OrderVerdict.{OrderVerdict}
use Rattle.lin_formats.specs.declared.verdicts.OrderVerdict.TheVariants.{Yes, No, IllFormed, Refused}

same_kinds : (kind : Kind) (kinds : Item → Kind) → ((key : Item) → kinds key ≡ kind) → kinds ≡ all_of kind
same_kinds kind kinds each = λ i key. each key i

-- an ill-formed history
pub judged_bad : (names : List (List ℕ)) (kind : Kind) (kinds : Item → Kind) (events : List Event) (text : List ℕ) (order : List Placed) (shape : Shape) (at : ℕ) (cause : Cause)
    → ((key : Item) → kinds key ≡ kind) → IsOrderBy names text order → IsShape (functions_of kinds) events shape → shape ≡ Bad at cause
    → IsJudged names kind events text (IllFormed at cause)
judged_bad names kind kinds events text order shape at cause each read shaped is =
    (order, read, subst (λ k. IsShape (functions_of k) events (Bad at cause)) (same_kinds kind kinds each) (subst (IsShape (functions_of kinds) events) is shaped))

-- a well-formed history, and an order that is legal or not
pub judged_good : (names : List (List ℕ)) (kind : Kind) (kinds : Item → Kind) (events : List Event) (text : List ℕ) (order : List Placed) (shape : Shape) (legal : Bool)
    → ((key : Item) → kinds key ≡ kind) → IsOrderBy names text order → IsShape (functions_of kinds) events shape → shape ≡ Good
    → (IsTrue legal ↔ IsLegalOrder kinds events order)
    → (legal ≡ true → IsJudged names kind events text Yes) × (legal ≡ false → IsJudged names kind events text No)
judged_good names kind kinds events text order shape legal each read shaped is tells =
    let same = same_kinds kind kinds each in
    let good = subst (λ k. IsShape (functions_of k) events Good) same (subst (IsShape (functions_of kinds) events) is shaped) in (
      λ lawful. (order, read, good, subst (λ k. IsLegalOrder k events order) same (tells.0 lawful)),
      λ unlawful. (order, read, good, λ lawful. true≢false (sym (tells.1 (subst (λ k. IsLegalOrder k events order) (sym same) lawful)) ∙ unlawful)),
    )

read_for : (verdict : OrderVerdict) (left : Option (List ℕ)) → IsAtEnd left → IsReadFor verdict left
read_for Yes left end = end
read_for No left end = end
read_for (IllFormed at cause) left end = end
read_for (Refused refusal) left end = stops_at_end refusal left end

-- what was read of a file by some names is so by more
pub whole_later : (keyed : Bool) (before names : List (List ℕ)) (bytes : List ℕ) (events : List Event) → Begins before names → IsWhole keyed before bytes events
    → IsWhole keyed names bytes events
whole_later keyed before names bytes events begun whole =
    (λ m reading. whole.0 m (reading.0, agrees_before before names m.number begun reading.1), whole.1)

-- what is right to answer of a history is right to answer of its file
pub verified : (before names : List (List ℕ)) (settings : Settings) (order : List ℕ) (a left : Option (List ℕ)) (history : History) (events : Vec Event)
    (verdict : OrderVerdict) → Begins before names → history ≡ Whole events
    → (bytes : List ℕ) × Consumes a left bytes × (length bytes ≤ 2 ^ 40) × EndsFor history left × IsHistory settings.keyed before bytes history
    → IsJudged names settings.kind events.items order verdict → IsVerifiedBy names settings order a left verdict
verified before names settings order a left history events verdict begun is read judged =
    let bytes = read.0 in
    let end : IsAtEnd left = subst (λ h. EndsFor h left) is read.3 in
    let whole : IsWhole settings.keyed before bytes events.items = subst (IsHistory settings.keyed before bytes) is read.4 in
    (bytes, read.1, read.2, read_for verdict left end, inr (events.items, whole_later settings.keyed before names bytes events.items begun whole, judged))
