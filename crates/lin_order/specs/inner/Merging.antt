-- Ranks of operations while orders are merged.
use Rattle.std.specs.Prelude.{◌≡◌, ◌≤◌, ◌==◌, ℕ, max, List, [], ◌∷◌, map, filter, length, AllPairs, slice_index_or}
use Rattle.std.specs.List.{zip}
use Rattle.lin_order.specs.declared.placed.Placed.{Placed}

-- for each operation of a part the greatest position up to it, from `base` on: what a merge goes by
abbrev pub ranks_from : ℕ → List Placed → List ℕ
ranks_from base [] = []
ranks_from base (p ∷ part) = max base p.at ∷ ranks_from (max base p.at) part

-- the ranks of the operations, each with the number of its part: those of each part are there, and none is less than one ahead of it
pub record AreRanks (parts : List (List Placed)) (ranks : List (ℕ × ℕ)) : Type 0 where
  pub of_parts : (number : ℕ) → map (λ r. r.0) (filter (λ r. r.1 == number) ranks) ≡ ranks_from 0 (slice_index_or parts number [])
  pub rising : AllPairs (λ x y. x.0 ≤ y.0) ranks

-- each part's operations, as they come, stand where the part's ranks stand
pub record IsTaken (parts : List (List Placed)) (ranks : List (ℕ × ℕ)) (order : List Placed) : Type 0 where
  pub length_of : length order ≡ length ranks
  pub parts_of : (number : ℕ) → map (λ p. p.1) (filter (λ p. p.0.1 == number) (zip ranks order)) ≡ slice_index_or parts number []
