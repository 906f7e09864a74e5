-- Whether a read fits, and how late it may be.
use Rattle.std.proofs.Common.{◌≡◌, ◌<◌, ◌≤◌, ◌+◌, ◌⊎◌, ◌++◌, ◌∷◌, [], ℕ, List, Option, Some, Contains, AllPairs, take, length, get_or, inl, inr, refl, sym, ap, subst, ◌∙◌, arith}
use Rattle.std.proofs.lemmas.Bool.{cases_lt}
use Rattle.std.proofs.lemmas.List.{get_or_default}
use Rattle.std.proofs.lemmas.List.Elements.{Contains-append_left, Contains-push, Contains-push_cases}
use Rattle.lin_events.specs.declared.items.Item.{Item}
use Rattle.lin_order.specs.lemmas.Lists.{take_more}
use Rattle.lin_lists.specs.lemmas.Elements.{nothing_in}
use Rattle.lin_sets.specs.Places.{place_in}
use Rattle.lin_sets.specs.Steps.{IsLatest, IsFittingSince, IsUnfit}
use Rattle.lin_sets.specs.declared.endings.Endings.{Endings}
use Rattle.lin_sets.specs.Endings.{known_in}
use Rattle.lin_sets.specs.Levels.{IsBelow, IsInside}

module _ (first : List (Item × Option ℕ)) (at : ℕ) where
  pub latest_start : IsLatest first at [] (Some at)
  latest_start = (omega arith, λ item there. absurd (nothing_in item there), inl refl)

  latest_push : (s : List Item) (item : Item) (latest added new : ℕ) → place_in first item ≡ Some added → IsLatest first at s (Some latest)
      → (latest ≤ new) × (added ≤ new) × ((new ≡ latest) ⊎ (new ≡ added)) → IsLatest first at (s ++ item ∷ []) (Some new)
  latest_push s item latest added new is was later = (
    omega (arith, was.0, later.0),
    λ other there. elim (Contains-push_cases s item other there) [
      | inl before ↦ let found = was.1 other before in (found.0, found.1, omega (arith, found.2, later.0))
      | inr same ↦ (added, ap (place_in first) (sym same) ∙ is, later.1)
    ],
    elim later.2 [
      | inl kept ↦ elim was.2 [
        | inl start ↦ inl (start ∙ sym kept)
        | inr some ↦ inr (some.0, Contains-append_left s (item ∷ []) some.0 some.1, some.2 ∙ ap Some (sym kept))
      ]
      | inr raised ↦ inr (item, Contains-push s item, is ∙ ap Some (sym raised))
    ],
  )

  pub latest_next : (s : List Item) (i : ℕ) (d : Item) (latest added new : ℕ) → i < length s → place_in first (get_or s i d) ≡ Some added → IsLatest first at (take i s) (Some latest)
      → (latest ≤ new) × (added ≤ new) × ((new ≡ latest) ⊎ (new ≡ added)) → IsLatest first at (take (i + 1) s) (Some new)
  latest_next s i d latest added new inside is was later =
      subst (λ (l : List Item). IsLatest first at l (Some new)) (sym (take_more s i (get_or s i d) inside (get_or_default s i d (get_or s i d) inside)))
      (latest_push (take i s) (get_or s i d) latest added new is was later)

  module _ (endings : Endings) (s items : List Item) where
    pub fits_from : (since latest : ℕ) → IsLatest first at items (Some latest)
        → ((item : Item) (end : ℕ) → known_in endings item ≡ Some end → since ≤ end → end < latest → Contains s item) → IsFittingSince first endings at s since items
    fits_from since latest is all = (
      λ item there. let found = is.1 item there in (found.0, found.1),
      λ item end known lacks from. elim (cases_lt end latest) [
        | inl early ↦ absurd (lacks (all item end known from early))
        | inr late ↦ (
          λ before. let begun = is.0 in let no : ⊥ = omega (arith, begun, late, before) in no,
          λ other there. let found = is.1 other there in (found.0, found.1, omega (arith, found.2, late)),
        )
      ],
    )

    pub unfit_from : (latest : ℕ) → IsLatest first at items (Some latest) → ((item : Item) → Contains items item → Contains s item)
        → (item : Item) × (end : ℕ) × (known_in endings item ≡ Some end) × (end < latest) × (Contains s item → ⊥) → IsUnfit first endings at s
    unfit_from latest is each missing = inr (
      missing.0,
      missing.1,
      missing.2,
      missing.4,
      elim is.2 [
        | inl start ↦ inl (omega (arith, start, missing.3))
        | inr some ↦ inr (some.0, latest, each some.0 some.1, some.2, missing.3)
      ],
    )

-- the least level that has an item lacks most: what is known early is in it
pub lacks_late : (endings : Endings) (levels : List (List Item)) (item : Item) (place i : ℕ) (level : List Item) → AllPairs IsBelow levels → i < length levels → level ≡ get_or levels i level
    → ((k : ℕ) (d : List Item) → k < i → Contains (get_or levels k d) item → ⊥) → ((other : Item) (end : ℕ) → known_in endings other ≡ Some end → end < place → Contains level other)
    → (s : List Item) (other : Item) (known : ℕ) → Contains levels s → Contains s item → known_in endings other ≡ Some known → (Contains s other → ⊥) → place ≤ known
lacks_late endings levels item place i level rising inside is none all s other known there has is_known lacks = elim (cases_lt known place) [
  | inl early ↦
      let found : Contains level other = all other known is_known early in
      elim (cases_lt there.0 i) [
        | inl before ↦ absurd (none there.0 s before (subst (λ (l : List Item). Contains l item) (sym there.2) has))
        | inr from ↦ elim (cases_lt i there.0) [
          | inl behind ↦
              let up : IsInside (get_or levels i level) (get_or levels there.0 level) = (rising i there.0 level behind there.1).0 in
              let at_s : get_or levels there.0 level ≡ s = get_or_default levels there.0 level s there.1 ∙ there.2 in
              absurd (lacks (subst (λ (l : List Item). Contains l other) at_s (up other (subst (λ (l : List Item). Contains l other) is found))))
          | inr upto ↦
              let same : there.0 ≡ i = omega arith in
              let at_s : level ≡ s = is ∙ get_or_default levels i level s inside ∙ ap (λ n. get_or levels n s) (sym same) ∙ there.2 in
              absurd (lacks (subst (λ (l : List Item). Contains l other) at_s found))
        ]
      ]
  | inr late ↦ late
]
