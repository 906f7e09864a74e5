-- Nodes: orders that share their beginnings.
use Rattle.std.specs.Prelude.{◌≡◌, ℕ, suc, List, [], ◌∷◌, ◌++◌, Some, slice_get}

-- node 0 spells the empty list, and node k + 1 what its parent spells and one element more
pub data Spells {A : Type 0} (nodes : List (ℕ × A)) : ℕ → List A → Type 0 where
  root : Spells nodes 0 []
  node : {k parent : ℕ} {order : List A} {p : A} → slice_get nodes k ≡ Some (parent, p) → Spells nodes parent order → Spells nodes (suc k) (order ++ p ∷ [])

-- nodes are only added
abbrev pub IsGrown : {A : Type 0} → List A → List A → Type 0
IsGrown {A} before now = (added : List A) × (now ≡ before ++ added)
