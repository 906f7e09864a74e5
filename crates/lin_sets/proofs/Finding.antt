-- Items that are looked for among rising ones.
use Rattle.std.proofs.Common.{◌≡◌, ◌<◌, ◌+◌, ◌↔◌, ℕ, Bool, true, false, IsTrue, List, Contains, length, get_or, slice_get, Some, inl, inr, sym, subst, ◌∙◌, arith}
use Rattle.std.specs.List.{AllWithin}
use Rattle.std.specs.declared.cmp.Ordering.TheVariants.{Less, Greater}
use Rattle.std.proofs.lemmas.Bool.{cases_lt, false≢true}
use Rattle.std.proofs.lemmas.List.Elements.{Contains-get_or}
use Rattle.std.proofs.lemmas.List.{get_or_default}
use Rattle.lin_events.specs.declared.items.Item.{Item}
use Rattle.lin_events.specs.Items.{item_cmp}
use Rattle.lin_events.specs.lemmas.Rising.{is_equal}
use Rattle.lin_sets.specs.Levels.{IsOutside}

-- where all are below an item or above it, it isn't there
pub not_there : (x : Item) (xs : List Item) (i : ℕ) → AllWithin (λ y. item_cmp y x ≡ Less) xs 0 i → AllWithin (λ y. item_cmp y x ≡ Greater) xs i (length xs) → Contains xs x → ⊥
not_there x xs i below above there =
    let same = is_equal (get_or xs there.0 x) x there.2 in
    elim (cases_lt there.0 i) [
      | inl before ↦ let f = below there.0 x (omega arith) before in cc
      | inr behind ↦ let f = above there.0 x behind there.1 in cc
    ]

-- inside a list no default counts
pub any_default : {A : Type 0} (xs : List A) (i : ℕ) (d e : A) → i < length xs → get_or xs i d ≡ get_or xs i e
any_default xs i d e inside = get_or_default xs i d e inside

-- a member that isn't found in the other set
pub outside_at : (s t : List Item) (i : ℕ) (d : Item) (r : Bool) → i < length s → (IsTrue r ↔ Contains t (get_or s i d)) → r ≡ false → IsOutside s t
outside_at s t i d r inside is lacks = (get_or s i d, Contains-get_or s i d inside, λ there. false≢true (sym lacks ∙ is.1 there))

-- one more that is found
pub inside_next : {A : Type 0} (f : A → Item) (xs : List A) (t : List Item) (i : ℕ) (d : A) (r : Bool) → i < length xs → (IsTrue r ↔ Contains t (f (get_or xs i d))) → r ≡ true
    → ((k : ℕ) (e : A) → k < i → Contains t (f (get_or xs k e))) → (k : ℕ) (e : A) → k < i + 1 → Contains t (f (get_or xs k e))
inside_next f xs t i d r inside is found before k e below = elim (cases_lt k i) [
  | inl early ↦ before k e early
  | inr late ↦
      let at : i ≡ k = omega arith in
      subst (λ n. Contains t (f (get_or xs n e))) at (subst (λ x. Contains t (f x)) (any_default xs i d e inside) (is.0 found))
]

pub one_there : {A : Type 0} (xs : List A) (k : ℕ) (x y : A) → slice_get xs k ≡ Some x → slice_get xs k ≡ Some y → x ≡ y
one_there xs k x y first second = cc
