-- Lists put in order, by an order.
use Rattle.std.specs.Prelude.{List, [], ◌∷◌}
use Rattle.std.specs.Ordering.{match_ordering}
use Rattle.std.specs.declared.cmp.Ordering.{Ordering}

module _ {K : Type 0} (R : K → K → Ordering) where
  -- one put ahead of the first that isn't below it
  abbrev pub with_one : K → List K → List K
  with_one x [] = x ∷ []
  with_one x (y ∷ ys) = match_ordering (R x y) (x ∷ y ∷ ys) (x ∷ y ∷ ys) (y ∷ with_one x ys)

  abbrev pub sorted : List K → List K
  sorted [] = []
  sorted (x ∷ xs) = with_one x (sorted xs)
