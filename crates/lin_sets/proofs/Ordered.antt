-- Lists that stand in the order of a relation, and putting lists into it.
use Rattle.std.proofs.Common.{◌≡◌, List, [], ◌∷◌, ◌⊎◌, ◌↔◌, Contains, AllPairs, map, inl, inr, refl, sym, subst, arith}
use Rattle.std.proofs.lemmas.List.Elements.{Contains-append_right}
use Rattle.std.proofs.lemmas.List.Kept.{AllPairs-cons}
use Rattle.lin_lists.specs.lemmas.Elements.{all_of, first_or_rest, nothing_in}

pub here : {A : Type 0} (x : A) (xs : List A) → Contains (x ∷ xs) x
here x xs = (0, omega arith, refl)

pub later : {A : Type 0} (x : A) (xs : List A) (y : A) → Contains xs y → Contains (x ∷ xs) y
later x xs y there = Contains-append_right (x ∷ []) xs y there

-- each element comes of the list that was mapped
pub from_map : {A B : Type 0} (f : A → B) (xs : List A) (y : B) → Contains (map f xs) y → (x : A) × Contains xs x × (y ≡ f x)
from_map f [] y there = absurd (nothing_in y there)
from_map f (x ∷ xs) y there = elim (first_or_rest (f x) (map f xs) y there) [
  | inl same ↦ (x, here x xs, sym same)
  | inr rest ↦ let found = from_map f xs y rest in (found.0, later x xs found.0 found.1, found.2)
]

pub to_map : {A B : Type 0} (f : A → B) (xs : List A) (x : A) → Contains xs x → Contains (map f xs) (f x)
to_map f [] x there = absurd (nothing_in x there)
to_map f (y ∷ xs) x there = elim (first_or_rest y xs x there) [
  | inl same ↦ subst (λ z. Contains (f y ∷ map f xs) (f z)) same (here (f y) (map f xs))
  | inr rest ↦ later (f y) (map f xs) (f x) (to_map f xs x rest)
]

-- the relation holds of each element and each later one
abbrev pub IsOrdered : {A : Type 0} → (A → A → Type 0) → List A → Type 0
IsOrdered R [] = Unit {0}
IsOrdered {A} R (x ∷ xs) = ((y : A) → Contains xs y → R x y) × IsOrdered R xs

-- what the relation says of two elements holds of each pair of the mapped list
pub mapped_pairs : {A B : Type 0} (R : A → A → Type 0) (Q : B → B → Type 0) (f : A → B) (xs : List A) → IsOrdered R xs
    → ((x y : A) → Contains xs x → Contains xs y → R x y → Q (f x) (f y)) → AllPairs Q (map f xs)
mapped_pairs R Q f [] ordered gives = λ i j d before within. absurd (omega arith)
mapped_pairs R Q f (x ∷ xs) ordered gives =
    AllPairs-cons Q (f x) (map f xs)
    (all_of (Q (f x)) (map f xs) (λ z there.
    let found = from_map f xs z there in
    subst (Q (f x)) (sym found.2) (gives x found.0 (here x xs) (later x xs found.0 found.1) (ordered.0 found.0 found.1))))
    (mapped_pairs R Q f xs ordered.1 (λ y z at_y at_z. gives y z (later x xs y at_y) (later x xs z at_z)))

-- where two elements that are apart stand in the relation one way or the other, a list of such elements can be put into order
module _ {A : Type 0} (R Apart : A → A → Type 0) (either : (x y : A) → Apart x y → R x y ⊎ R y x) (onward : (x y z : A) → R x y → R y z → Apart x z → R x z) where
  put : (x : A) (xs : List A) → IsOrdered R xs → ((y : A) → Contains xs y → Apart x y)
      → (ys : List A) × IsOrdered R ys × ((y : A) → Contains ys y ↔ ((x ≡ y) ⊎ Contains xs y))
  put x [] ordered apart = (
    x ∷ [],
    (λ y there. absurd (nothing_in y there), tt),
    λ y. (
      first_or_rest x [] y,
      λ either_way. elim either_way [
        | inl same ↦ subst (Contains (x ∷ [])) same (here x [])
        | inr there ↦ absurd (nothing_in y there)
      ],
    ),
  )
  put x (z ∷ xs) ordered apart = elim (either x z (apart z (here z xs))) [
    | inl first ↦ (
      x ∷ z ∷ xs,
      (
        λ y there. elim (first_or_rest z xs y there) [
          | inl same ↦ subst (R x) same first
          | inr rest ↦ onward x z y first (ordered.0 y rest) (apart y there)
        ],
        ordered,
      ),
      λ y. (
        first_or_rest x (z ∷ xs) y,
        λ either_way. elim either_way [
          | inl same ↦ subst (Contains (x ∷ z ∷ xs)) same (here x (z ∷ xs))
          | inr there ↦ later x (z ∷ xs) y there
        ],
      ),
    )
    | inr second ↦
        let rest = put x xs ordered.1 (λ y there. apart y (later z xs y there)) in (
          z ∷ rest.0,
          (
            λ y there. elim ((rest.2 y).0 there) [
              | inl same ↦ subst (R z) same second
              | inr more ↦ ordered.0 y more
            ],
            rest.1,
          ),
          λ y. (
            λ there. elim (first_or_rest z rest.0 y there) [
              | inl same ↦ inr (subst (Contains (z ∷ xs)) same (here z xs))
              | inr more ↦ elim ((rest.2 y).0 more) [
                | inl same ↦ inl same
                | inr there ↦ inr (later z xs y there)
              ]
            ],
            λ either_way. elim either_way [
              | inl same ↦ later z rest.0 y ((rest.2 y).1 (inl same))
              | inr there ↦ elim (first_or_rest z xs y there) [
                | inl same ↦ subst (Contains (z ∷ rest.0)) same (here z rest.0)
                | inr more ↦ later z rest.0 y ((rest.2 y).1 (inr more))
              ]
            ],
          ),
        )
  ]

  pub into_order : (xs : List A) → IsOrdered Apart xs → (ys : List A) × IsOrdered R ys × ((y : A) → Contains ys y ↔ Contains xs y)
  into_order [] apart = ([], tt, λ y. (λ there. there, λ there. there))
  into_order (x ∷ xs) apart =
      let rest = into_order xs apart.1 in
      let all = put x rest.0 rest.1 (λ y there. apart.0 y ((rest.2 y).0 there)) in (
        all.0,
        all.1,
        λ y. (
          λ there. elim ((all.2 y).0 there) [
            | inl same ↦ subst (Contains (x ∷ xs)) same (here x xs)
            | inr more ↦ later x xs y ((rest.2 y).0 more)
          ],
          λ there. elim (first_or_rest x xs y there) [
            | inl same ↦ (all.2 y).1 (inl same)
            | inr more ↦ (all.2 y).1 (inr ((rest.2 y).1 more))
          ],
        ),
      )
