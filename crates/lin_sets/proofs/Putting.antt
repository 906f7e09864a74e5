-- A place put at an item: it is there, and other items keep theirs.
use Rattle.std.proofs.Common.{◌≡◌, ◌⊎◌, ℕ, List, Option, None, Some, IsSome, unwrap_or, cond, inl, inr, refl, sym, ap, subst, ◌∙◌}
use Rattle.std.proofs.lemmas.Bool.{cases_Bool, false≢true}
use Rattle.std.specs.Map.{lookup}
use Rattle.lin_events.specs.declared.items.Item.{Item}
use Rattle.lin_events.specs.Items.{item_eq}
use Rattle.lin_events.specs.Sameness.{Decides-item_eq}
use Rattle.lin_sets.specs.Places.{IsListed, IsPut, place_in}

pub put_cases : (old new : List (Item × Option ℕ)) (item : Item) (place : Option ℕ) → IsPut old new item place → (other : Item)
    → ((item ≡ other) × (place_in new other ≡ place)) ⊎ ((item ≡ other → ⊥) × (place_in new other ≡ place_in old other))
put_cases old new item place put other = elim (cases_Bool (item_eq item other)) [
  | inl same ↦ inl ((Decides-item_eq item other).0 same, ap (λ o. unwrap_or o None) (put other ∙ ap (λ b. cond b (Some place) (lookup (item_eq other) old)) same))
  | inr differ ↦ inr (λ same. false≢true (sym differ ∙ (Decides-item_eq item other).1 same), ap (λ o. unwrap_or o None) (put other ∙ ap (λ b. cond b (Some place) (lookup (item_eq other) old)) differ))
]

pub put_here : (old new : List (Item × Option ℕ)) (item : Item) (place : Option ℕ) → IsPut old new item place → place_in new item ≡ place
put_here old new item place put = ap (λ o. unwrap_or o None) (put item ∙ ap (λ b. cond b (Some place) (lookup (item_eq item) old)) ((Decides-item_eq item item).1 refl))

-- what is listed stays so
pub put_listed : (old new : List (Item × Option ℕ)) (item : Item) (place : Option ℕ) → IsPut old new item place → (other : Item) → IsListed old other → IsListed new other
put_listed old new item place put other listed = elim (cases_Bool (item_eq item other)) [
  | inl same ↦ subst IsSome (sym (put other ∙ ap (λ b. cond b (Some place) (lookup (item_eq other) old)) same)) refl
  | inr differ ↦ subst IsSome (sym (put other ∙ ap (λ b. cond b (Some place) (lookup (item_eq other) old)) differ)) listed
]

pub listed_here : (old new : List (Item × Option ℕ)) (item : Item) (place : Option ℕ) → IsPut old new item place → IsListed new item
listed_here old new item place put = subst IsSome (sym (put item ∙ ap (λ b. cond b (Some place) (lookup (item_eq item) old)) ((Decides-item_eq item item).1 refl))) refl

-- an item that has a place is listed
pub listed_where : (listed : List (Item × Option ℕ)) (item : Item) (place : ℕ) → place_in listed item ≡ Some place → IsListed listed item
listed_where listed item place is = by (lookup (item_eq item) listed) is
  where
    by : (o : Option (Option ℕ)) → unwrap_or o None ≡ Some place → IsSome o
    by None is = cc
    by (Some found) is = refl
