-- The largest of some numbers, and numbers that count on a condition.
use Rattle.std.proofs.Common.{◌≡◌, ◌≤◌, ℕ, Bool, true, false, List, [], ◌∷◌, Contains, max, inl, inr, refl, sym, subst, arith, le_trans}
use Rattle.std.proofs.Math.Nat.{le-max_left, le-max_right, max-le}
use Rattle.lin_lists.specs.lemmas.Elements.{first_or_rest, nothing_in}
use Rattle.lin_sets.proofs.Ordered.{here, later}

abbrev pub most : {A : Type 0} → (A → ℕ) → List A → ℕ
most f [] = 0
most f (x ∷ xs) = max (f x) (most f xs)

pub most_above : {A : Type 0} (f : A → ℕ) (xs : List A) (x : A) → Contains xs x → f x ≤ most f xs
most_above f [] x there = absurd (nothing_in x there)
most_above f (y ∷ xs) x there = elim (first_or_rest y xs x there) [
  | inl same ↦ subst (λ z. f z ≤ max (f y) (most f xs)) same (le-max_left (f y) (most f xs))
  | inr rest ↦ le_trans (most_above f xs x rest) (le-max_right (f y) (most f xs))
]

pub most_below : {A : Type 0} (f : A → ℕ) (xs : List A) (bound : ℕ) → ((x : A) → Contains xs x → f x ≤ bound) → most f xs ≤ bound
most_below f [] bound each = omega arith
most_below f (x ∷ xs) bound each = max-le (each x (here x xs)) (most_below f xs bound (λ y there. each y (later x xs y there)))

-- the number, but for none where the condition holds
abbrev pub unless : Bool → ℕ → ℕ
unless true n = 0
unless false n = n

pub unless_below : (b : Bool) (n bound : ℕ) → (b ≡ false → n ≤ bound) → unless b n ≤ bound
unless_below true n bound below = omega arith
unless_below false n bound below = below refl

pub unless_same : (b : Bool) (n : ℕ) → b ≡ false → n ≤ unless b n
unless_same b n off = subst (λ c. n ≤ unless c n) (sym off) (omega arith)
