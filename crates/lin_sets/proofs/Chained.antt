-- Sets of items, one of which has all that the other has.
use Rattle.std.proofs.Common.{◌≡◌, ◌<◌, ◌≤◌, Bool, true, false, List, [], ◌∷◌, ◌⊎◌, Contains, length, inl, inr, refl, sym, subst, ◌∙◌, arith, true≢false}
use Rattle.std.proofs.lemmas.List.Elements.{All-contains}
use Rattle.std.specs.declared.cmp.Ordering.TheVariants.{Less}
use Rattle.std.specs.Cmp.{tied_itself}
use Rattle.lin_events.specs.declared.items.Item.{Item}
use Rattle.lin_events.specs.Items.{item_cmp}
use Rattle.lin_events.specs.Sameness.{items_total}
use Rattle.lin_events.specs.lemmas.Deciding.{key_cases}
use Rattle.lin_lists.specs.Sets.{IsRising}
use Rattle.lin_lists.specs.lemmas.Elements.{first_or_rest, nothing_in}
use Rattle.lin_sets.proofs.Ordered.{here, later}

-- an item is in the list, or not
pub has_or_not : (s : List Item) (n : Item) → Contains s n ⊎ (Contains s n → ⊥)
has_or_not [] n = inr (nothing_in n)
has_or_not (x ∷ s) n = elim (key_cases x n) [
  | inl same ↦ inl (subst (Contains (x ∷ s)) same (here x s))
  | inr other ↦ elim (has_or_not s n) [
    | inl rest ↦ inl (later x s n rest)
    | inr none ↦ inr (λ there. elim (first_or_rest x s n there) [
      | inl same ↦ other same
      | inr rest ↦ none rest
    ])
  ]
]

-- whether it is
pub has : List Item → Item → Bool
has s n = elim (has_or_not s n) [
  | inl there ↦ true
  | inr none ↦ false
]

pub has_yes : (s : List Item) (n : Item) → has s n ≡ true → Contains s n
unfolding has
has_yes s n = by (has_or_not s n)
  where
    by : (found : Contains s n ⊎ (Contains s n → ⊥)) → elim found [ inl there ↦ true | inr none ↦ false ] ≡ true → Contains s n
    by (inl there) e = there
    by (inr none) e = absurd (true≢false (sym e))

pub has_no : (s : List Item) (n : Item) → has s n ≡ false → Contains s n → ⊥
unfolding has
has_no s n = by (has_or_not s n)
  where
    by : (found : Contains s n ⊎ (Contains s n → ⊥)) → elim found [ inl there ↦ true | inr none ↦ false ] ≡ false → Contains s n → ⊥
    by (inl there) e = absurd (true≢false e)
    by (inr none) e = none

pub has_not : (s : List Item) (n : Item) → (Contains s n → ⊥) → has s n ≡ false
unfolding has
has_not s n out = by (has_or_not s n)
  where
    by : (found : Contains s n ⊎ (Contains s n → ⊥)) → elim found [ inl there ↦ true | inr none ↦ false ] ≡ false
    by (inl there) = absurd (out there)
    by (inr none) = refl

-- all that the one list has the other has
abbrev pub IsWithin : List Item → List Item → Type 0
IsWithin s t = (n : Item) → Contains s n → Contains t n

-- either that, or one has an item that the other hasn't
pub within_or_not : (s t : List Item) → IsWithin s t ⊎ ((n : Item) × Contains s n × (Contains t n → ⊥))
within_or_not [] t = inl (λ n there. absurd (nothing_in n there))
within_or_not (x ∷ s) t = elim (has_or_not t x) [
  | inr none ↦ inr (x, here x s, none)
  | inl there ↦ elim (within_or_not s t) [
    | inr found ↦ inr (found.0, later x s found.0 found.1, found.2)
    | inl rest ↦ inl (λ n inside. elim (first_or_rest x s n inside) [
      | inl same ↦ subst (Contains t) same there
      | inr more ↦ rest n more
    ])
  ]
]

not_below_itself : (x y : Item) → x ≡ y → item_cmp x y ≡ Less → ⊥
not_below_itself x y same less = let e = tied_itself items_total x in let f : item_cmp x x ≡ Less = subst (λ z. item_cmp x z ≡ Less) (sym same) less in cc

-- the first items are the same, or the larger set's is below all of the other
rest_within : (x y : Item) (s t : List Item) → IsRising item_cmp (x ∷ s) → IsRising item_cmp (y ∷ t) → IsWithin (x ∷ s) (y ∷ t)
    → ((x ≡ y) × IsWithin s t) ⊎ IsWithin (x ∷ s) t
rest_within x y s t rising also within = elim (key_cases x y) [
  | inl same ↦ inl (
    same,
    λ n there. elim (first_or_rest y t n (within n (later x s n there))) [
      | inl first ↦ absurd (not_below_itself x n (same ∙ first) (All-contains (λ z. item_cmp x z ≡ Less) s n rising.0 there))
      | inr rest ↦ rest
    ],
  )
  | inr other ↦ inr (λ n there. elim (first_or_rest y t n (within n there)) [
    | inr rest ↦ rest
    | inl first ↦
        let x_in : Contains t x = elim (first_or_rest y t x (within x (here x s))) [
          | inl same ↦ absurd (other (sym same))
          | inr rest ↦ rest
        ] in
        let y_below : item_cmp y x ≡ Less = All-contains (λ z. item_cmp y z ≡ Less) t x also.0 x_in in
        elim (first_or_rest x s n there) [
          | inl same ↦ absurd (other (same ∙ sym first))
          | inr more ↦
              let x_below : item_cmp x n ≡ Less = All-contains (λ z. item_cmp x z ≡ Less) s n rising.0 more in
              absurd (not_below_itself y n first (items_total.trans y x n y_below x_below))
        ]
  ])
]

-- a set within another has no more items
pub no_more : (s t : List Item) → IsRising item_cmp s → IsRising item_cmp t → IsWithin s t → length s ≤ length t
no_more [] t rising also within = omega arith
no_more (x ∷ s) [] rising also within = absurd (nothing_in x (within x (here x s)))
no_more (x ∷ s) (y ∷ t) rising also within = elim (rest_within x y s t rising also within) [
  | inl same ↦ let rest = no_more s t rising.1 also.1 same.1 in omega (arith, rest)
  | inr inside ↦ let rest = no_more (x ∷ s) t rising also.1 inside in omega (arith, rest)
]

-- and fewer where the other has one that it hasn't
pub fewer : (s t : List Item) (n : Item) → IsRising item_cmp s → IsRising item_cmp t → IsWithin s t → Contains t n → (Contains s n → ⊥) → length s < length t
fewer s [] n rising also within there out = absurd (nothing_in n there)
fewer [] (y ∷ t) n rising also within there out = omega arith
fewer (x ∷ s) (y ∷ t) n rising also within there out = elim (rest_within x y s t rising also within) [
  | inl same ↦ elim (first_or_rest y t n there) [
    | inl first ↦ absurd (out (subst (Contains (x ∷ s)) (same.0 ∙ first) (here x s)))
    | inr more ↦ let rest = fewer s t n rising.1 also.1 same.1 more (λ inside. out (later x s n inside)) in omega (arith, rest)
  ]
  | inr inside ↦ let rest = no_more (x ∷ s) t rising also.1 inside in omega (arith, rest)
]
