-- Sets as strictly rising lists, by an order.
use Rattle.std.specs.Prelude.{◌≡◌, List, [], ◌∷◌, ◌⊎◌, ◌↔◌, All, Contains}
use Rattle.std.specs.Ordering.{match_ordering}
use Rattle.std.specs.declared.cmp.Ordering.{Ordering}
use Rattle.std.specs.declared.cmp.Ordering.TheVariants.{Less}

module _ {K : Type 0} (R : K → K → Ordering) where
  -- each member is below all later ones
  abbrev pub IsRising : List K → Type 0
  IsRising [] = Unit {0}
  IsRising (x ∷ xs) = All (λ y. R x y ≡ Less) xs × IsRising xs

  -- a member put into its place, unless it is there
  abbrev pub with_member : K → List K → List K
  with_member x [] = x ∷ []
  with_member x (y ∷ ys) = match_ordering (R x y) (x ∷ y ∷ ys) (y ∷ ys) (y ∷ with_member x ys)

  -- the set of some members: rising, and repeats fall together
  abbrev pub members_of : List K → List K
  members_of [] = []
  members_of (x ∷ xs) = with_member x (members_of xs)

  -- putting a member into a set gives a set
  abbrev pub StaysRising : Type 0
  StaysRising = (x : K) (xs : List K) → IsRising xs → IsRising (with_member x xs)

  -- a set with a member has that member and those that it had
  abbrev pub HasMember : Type 0
  HasMember = (x y : K) (xs : List K) → Contains (with_member x xs) y ↔ ((y ≡ x) ⊎ Contains xs y)

  -- sets with the same members are the same
  abbrev pub AreSameSets : Type 0
  AreSameSets = (xs ys : List K) → IsRising xs → IsRising ys → ((y : K) → Contains xs y ↔ Contains ys y) → xs ≡ ys
