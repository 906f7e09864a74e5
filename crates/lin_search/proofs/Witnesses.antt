-- A legal order of a history, all of whose events are of one key, is one of the key's object.
use Rattle.std.proofs.Common.{◌≡◌, ◌<◌, ◌≤◌, ◌+◌, ℕ, zero, suc, Bool, true, false, cond, List, [], ◌∷◌, ◌++◌, All, filter, get_or, length, slice_get, take, refl, sym, ap, subst, ◌∙◌, arith}
use Rattle.std.specs.Option.{option_map_or}
use Rattle.std.proofs.Math.Seq.{take-suc}
use Rattle.std.proofs.lemmas.List.Elements.{filter_map-append}
use Rattle.std.specs.Prelude.{Some}
use Rattle.std.specs.List.{cons_option}
use Rattle.std.proofs.lemmas.List.{take_all}
use Rattle.std.proofs.lemmas.Option.{get_or_from_slice_get, slice_get_within}
use Rattle.lin_order.specs.lemmas.Lists.{take_more}
use Rattle.lin_events.specs.declared.items.Item.{Item}
use Rattle.lin_events.specs.Sameness.{Decides-item_eq}
use Rattle.lin_events.specs.Items.{item_eq}
use Rattle.lin_events.specs.declared.calls.Call.{Call}
use Rattle.lin_events.specs.declared.events.Body.TheVariants.{Invoke}
use Rattle.lin_events.specs.declared.events.Event.{Event}
use Rattle.lin_objects.specs.declared.kinds.Kind.{Kind}
use Rattle.lin_objects.specs.Kinds.{kind_of, same_for_all}
use Rattle.lin_objects.specs.Steps.{Step, start}
use Rattle.lin_order.specs.declared.placed.Placed.{Placed}
use Rattle.lin_order.specs.Linearizable.{IsLegalOrder, IsRun, IsLegalOrderAs}
use Rattle.lin_order.specs.Orders.{IsCall, is_of_key, part_of}
use Rattle.lin_order.specs.Parts.{events_at}

-- a test that holds of all elements keeps the list
kept_all : {X : Type 0} (p : X → Bool) (xs : List X) → All (λ x. p x ≡ true) xs → filter p xs ≡ xs
kept_all p [] all = refl
kept_all {X} p (x ∷ xs) all =
    ap (λ b. cond b (x ∷ filter p xs) (filter p xs)) (all zero x (omega arith)) ∙ ap (λ l. x ∷ l) (kept_all p xs (λ k d within. all (suc k) d (omega (arith, within))))

-- an operation of the history is of the key
of_key : (key : Item) (h : List Event) → All (λ event. event.key ≡ key) h → (at : ℕ) (call : Call) → IsCall h at call → is_of_key h key at ≡ true
of_key key h all at call is =
    let event : Event = record { process = is.0; key = is.1; body = Invoke call } in
    let within = slice_get_within h at event is.2 in
    let same : is.1 ≡ key = subst (λ (e : Event). e.key ≡ key) (get_or_from_slice_get h at event event is.2) (all at event within) in
    ap (λ o. option_map_or (λ (e : Event). item_eq e.key key) o false) is.2 ∙ (Decides-item_eq is.1 key).1 same

-- so the whole order is the part of it that is of the key
pub legal_as : (kind : Kind) (key : Item) (h : List Event) (order : List Placed) → All (λ event. event.key ≡ key) h → IsLegalOrder (kind_of (same_for_all kind)) h order → IsLegalOrderAs kind h order
legal_as kind key h order all legal =
    let whole : part_of h key order ≡ order = kept_all (λ (p : Placed). is_of_key h key p.at) order
    (λ k d within. let p = legal.order_of.operations k d within in of_key key h all (get_or order k d).at p.0 p.1) in
    record { order_of = legal.order_of; legal = subst (IsRun (start kind) (Step kind) h) whole (legal.legal key) }

-- the events at one place more
pub one_more : (h : List Event) (picks : List ℕ) (k d : ℕ) → k < length picks → events_at h (take (k + 1) picks) ≡ events_at h (take k picks) ++ events_at h (get_or picks k d ∷ [])
one_more h picks k d within =
    let next : k + 1 ≡ suc k = omega arith in
    ap (λ n. events_at h (take n picks)) next ∙ ap (events_at h) (take-suc picks k d within) ∙ filter_map-append (λ at. slice_get h at) (take k picks) (get_or picks k d ∷ [])

-- an event that stands there
stands : (h : List Event) (k : ℕ) → k < length h → (event : Event) × (slice_get h k ≡ Some event)
stands [] k within = absurd (omega (arith, within))
stands (event ∷ h) zero within = (event, refl)
stands (event ∷ h) (suc k) within = stands h k (omega (arith, within))

-- places that are those of all events, one after the other
pub all_more : (h : List Event) (picks : List ℕ) (k : ℕ) → k < length picks → k < length h → get_or picks k 0 ≡ k → events_at h (take k picks) ≡ take k h → events_at h (take (k + 1) picks) ≡ take (k + 1) h
all_more h picks k in_picks within here so_far =
    let event = stands h k within in
    one_more h picks k 0 in_picks ∙ ap (λ l. l ++ events_at h (get_or picks k 0 ∷ [])) so_far ∙ ap (λ at. take k h ++ events_at h (at ∷ [])) here
    ∙ ap (λ o. take k h ++ cons_option o []) event.1 ∙ sym (take_more h k event.0 within (sym (get_or_from_slice_get h k event.0 event.0 event.1)))

pub all_at_end : (h : List Event) (picks : List ℕ) (k : ℕ) → length picks ≤ k → length h ≤ k → events_at h (take k picks) ≡ take k h → events_at h picks ≡ h
all_at_end h picks k picks_end end whole = ap (events_at h) (sym (take_all k picks picks_end)) ∙ whole ∙ take_all k h end
