-- What holds of each element of a list, from the left.
use Rattle.std.proofs.Common.{◌≡◌, ◌<◌, ◌≤◌, ℕ, ◌+◌, List, length, All, Contains, sym, subst, take, get_or}
use Rattle.std.proofs.lemmas.List.{take_all}
use Rattle.std.proofs.lemmas.List.Elements.{All-more, All-contains}

module _ {A : Type 0} (xs : List A) (i : ℕ) (x : A) (inside : i < length xs) (is : x ≡ get_or xs i x) where
  -- of one more element
  pub all_more : (P : A → Type 0) → All P (take i xs) → P x → All P (take (i + 1) xs)
  all_more P all here = All-more P xs i x inside all (subst P is here)

  pub contains_here : Contains xs x
  contains_here = (i, inside, sym is)

  -- what does not hold of one does not hold of each
  pub not_all : (P : A → Type 0) → (P x → ⊥) → All P xs → ⊥
  not_all P never all = never (All-contains P xs x all contains_here)

-- of all, once the end is reached
pub all_end : {A : Type 0} (P : A → Type 0) (xs : List A) (i : ℕ) → length xs ≤ i → All P (take i xs) → All P xs
all_end P xs i past so_far = subst (All P) (take_all i xs past) so_far
