-- The keys of a history.
use Rattle.std.proofs.Common.{◌≡◌, ◌⊎◌, ◌↔◌, inl, inr, Bool, true, false, List, [], ◌∷◌, ◌++◌, Contains, refl, sym, ap, subst, ◌∙◌, if◌then◌else◌}
use Rattle.std.specs.List.{list_any, IsDistinct}
use Rattle.std.specs.List.Sorted.{IsStrictlySortedBy}
use Rattle.std.proofs.lemmas.List.Elements.{Contains-append_left, Contains-push, Contains-push_cases}
use Rattle.std.proofs.lemmas.Map.Keys.{IsDistinct-from_sorted}
use Rattle.std.proofs.lemmas.Map.Views.{Contains-from_any}
use Rattle.indexmap.specs.IndexSet.{insert_key}
use Rattle.lin_events.specs.declared.items.Item.{Item}
use Rattle.lin_events.specs.Sameness.{Decides-item_eq, ties}
use Rattle.lin_events.specs.Items.{item_cmp, item_eq}
use Rattle.lin_events.specs.declared.events.Event.{Event}
use Rattle.lin_answers.specs.Keys.{Occurs}

-- just the keys of the history, in any order, some more than once
abbrev pub AreKeysIn : List Event → List Item → Type 0
AreKeysIn h keys = (key : Item) → Contains keys key ↔ Occurs h key

-- one more event has its own key
Occurs-more : (h : List Event) (event : Event) (key : Item) → Occurs (h ++ event ∷ []) key → Occurs h key ⊎ (event.key ≡ key)
Occurs-more h event key (other, there, same) = elim (Contains-push_cases h event other there) [
  | inl before ↦ inl (other, before, same)
  | inr is ↦ inr (ap (λ (e : Event). e.key) is ∙ same)
]

Occurs-before : (h : List Event) (event : Event) (key : Item) → Occurs h key → Occurs (h ++ event ∷ []) key
Occurs-before h event key (other, there, same) = (other, Contains-append_left h (event ∷ []) other there, same)

-- it is listed already
pub AreKeysIn-passed : (h : List Event) (keys : List Item) (event : Event) → Contains keys event.key → AreKeysIn h keys → AreKeysIn (h ++ event ∷ []) keys
AreKeysIn-passed h keys event listed are = λ key. (
  (λ there. Occurs-before h event key ((are key).0 there)),
  (λ occurs. elim (Occurs-more h event key occurs) [
    | inl before ↦ (are key).1 before
    | inr same ↦ subst (Contains keys) same listed
  ]),
)

-- its key is listed last, unless it is listed already
pub AreKeysIn-inserted : (h : List Event) (keys : List Item) (event : Event) → AreKeysIn h keys → AreKeysIn (h ++ event ∷ []) (insert_key item_eq keys event.key)
AreKeysIn-inserted h keys event are = by (list_any (item_eq event.key) keys) refl
  where
    by : (b : Bool) → list_any (item_eq event.key) keys ≡ b → AreKeysIn (h ++ event ∷ []) (if b then keys else keys ++ event.key ∷ [])
    by true e = AreKeysIn-passed h keys event (Contains-from_any (λ x y. (Decides-item_eq x y).0) event.key keys e) are
    by false e = λ key. (
      (λ there. elim (Contains-push_cases keys event.key key there) [
        | inl before ↦ Occurs-before h event key ((are key).0 before)
        | inr same ↦ (event, Contains-push h event, same)
      ]),
      (λ occurs. elim (Occurs-more h event key occurs) [
        | inl before ↦ Contains-append_left keys (event.key ∷ []) key ((are key).1 before)
        | inr same ↦ subst (Contains (keys ++ event.key ∷ [])) same (Contains-push keys event.key)
      ]),
    )

-- rising keys stand once each
pub distinct_keys : (keys : List Item) → IsStrictlySortedBy item_cmp keys → IsDistinct item_eq keys
distinct_keys keys rising = subst (λ (e : Item → Item → Bool). IsDistinct e keys) (λ i x y. sym (ties x y) i) (IsDistinct-from_sorted item_cmp keys rising)
