-- Adds that stand, by what is listed at a place.
use Rattle.std.proofs.Common.{◌≡◌, ◌<◌, ◌+◌, ℕ, List, Option, Some, length, get_or, inl, inr, refl, sym, subst, ◌∙◌, arith}
use Rattle.std.proofs.lemmas.Bool.{cases_lt}
use Rattle.std.proofs.lemmas.List.{get_or_default}
use Rattle.std.proofs.lemmas.Option.{slice_get_read, slice_get_within}
use Rattle.lin_events.specs.declared.items.Item.{Item}
use Rattle.lin_sets.specs.Parts.{Stands}
use Rattle.lin_sets.specs.Steps.{IsNextAdd}
use Rattle.lin_sets.proofs.Finding.{one_there}

pub stands_from : (adds : List (Option Item)) (at : ℕ) (item : Item) (d : Option Item) → at < length adds → get_or adds at d ≡ Some item → Stands adds at item
stands_from adds at item d inside is = slice_get_read adds (length adds) at (Some item) refl inside (sym is ∙ get_or_default adds at d (Some item) inside)

pub stands_to : (adds : List (Option Item)) (at : ℕ) (item : Item) (d : Option Item) → at < length adds → Stands adds at item → get_or adds at d ≡ Some item
stands_to adds at item d inside stands =
    one_there adds at (get_or adds at d) (Some item) (slice_get_read adds (length adds) at (get_or adds at d) refl inside (get_or_default adds at d (get_or adds at d) inside)) stands

pub stands_inside : (adds : List (Option Item)) (at : ℕ) (item : Item) → Stands adds at item → at < length adds
stands_inside adds at item stands = slice_get_within adds at (Some item) stands

-- at the next place
pub next_from : (adds : List (Option Item)) (item : Item) (after at : ℕ) (d : Option Item) → after < at → at < length adds → get_or adds at d ≡ Some item → ((k : ℕ) → after < k → k < at → Stands adds k item → ⊥)
    → IsNextAdd adds item after (Some at)
next_from adds item after at d behind inside is none = (
  behind,
  stands_from adds at item d inside is,
  λ k later stands. elim (cases_lt k at) [
    | inl before ↦ absurd (none k later before stands)
    | inr from ↦ from
  ],
)

pub none_next : (adds : List (Option Item)) (item : Item) (after at : ℕ) → ((k : ℕ) → after < k → k < at → Stands adds k item → ⊥) → (after < at → Stands adds at item → ⊥)
    → (k : ℕ) → after < k → k < at + 1 → Stands adds k item → ⊥
none_next adds item after at none here k behind below stands = elim (cases_lt k at) [
  | inl before ↦ none k behind before stands
  | inr from ↦
      let same : k ≡ at = omega arith in
      here (subst (λ n. after < n) same behind) (subst (λ n. Stands adds n item) same stands)
]
