-- Walks along steps that each place an operation, and the entries that walks reach: words of private contracts.
use Rattle.std.specs.Prelude.{◌≡◌, ◌≢◌, ◌≤◌, ℕ, suc, ◌+◌, List, [], ◌∷◌, ◌++◌, length, All, AllPairs, Contains, Some, slice_get}
use Rattle.std.specs.Map.{keys_of}
use Rattle.lin_events.specs.declared.meter.Meter.{Meter}
use Rattle.lin_order.specs.declared.placed.Placed.{Placed}
use Rattle.lin_frontier.specs.Nodes.{Spells}

-- steps that place these operations lead from a to b
pub data Walk {S : Type 0} (R : S → Placed → S → Type 0) (a : S) : List Placed → S → Type 0 where
  here : Walk R a [] a
  more : {order : List Placed} {b : S} {p : Placed} {c : S} → Walk R a order b → R b p c → Walk R a (order ++ p ∷ []) c

-- the entry is reached from an entry of the start, and its node spells how
pub record IsTraced {S : Type 0} (R : S → Placed → S → Type 0) (starts : List (S × ℕ)) (before now : List (ℕ × Placed)) (entry : S × ℕ) : Type 0 where
  pub from : S × ℕ
  pub order : List Placed
  pub begins : Contains starts from
  pub walk : Walk R from.0 order entry.0
  pub spelled : (base : List Placed) → Spells before from.1 base → Spells now entry.1 (base ++ order)

-- the entries are exactly what is reached from those of the start, none twice
pub record IsClosure {S : Type 0} (R : S → Placed → S → Type 0) (starts : List (S × ℕ)) (before now : List (ℕ × Placed)) (found : List (S × ℕ)) : Type 0 where
  pub traced : All (IsTraced R starts before now) found
  pub begins : (a : S) → Contains (keys_of starts) a → Contains (keys_of found) a
  pub closed : (a b : S) (p : Placed) → Contains (keys_of found) a → R a p b → Contains (keys_of found) b
  pub distinct : AllPairs (λ a b. a.0 ≢ b.0) found

-- n + 1 different values are reached
pub record IsBeyond {S : Type 0} (R : S → Placed → S → Type 0) (starts : List (S × ℕ)) (n : ℕ) : Type 0 where
  pub found : List S
  pub many : length found ≡ n + 1
  pub reached : All (λ t. (a : S) × (order : List Placed) × Contains (keys_of starts) a × Walk R a order t) found
  pub distinct : AllPairs (λ c d. c ≢ d) found

-- the node has this parent and this operation
abbrev pub IsNode : List (ℕ × Placed) → ℕ → ℕ → Placed → Type 0
IsNode nodes id parent p = (k : ℕ) × (id ≡ suc k) × (slice_get nodes k ≡ Some (parent, p))

-- the map took each outcome in, each new one with a node under the parent
pub record IsAbsorbed {S : Type 0} (out : List (S × Placed)) (parent : ℕ) (before now : List (S × ℕ)) (nodes : List (ℕ × Placed)) : Type 0 where
  pub added : List (S × ℕ)
  pub kept : now ≡ before ++ added
  pub from_out : All (λ e. (p : Placed) × Contains out (e.0, p) × IsNode nodes e.1 parent p) added
  pub taken : (x : S × Placed) → Contains out x → Contains (keys_of now) x.0

-- at most so many calls were tried, and nothing else was counted
pub record IsTriedAtMost (most : ℕ) (old new : Meter) : Type 0 where
  pub steps : new.steps ≡ old.steps
  pub scans : new.scans ≡ old.scans
  pub tries : new.tries ≤ old.tries + most
