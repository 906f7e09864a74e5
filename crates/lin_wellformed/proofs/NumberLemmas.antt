-- Lists in which each process stands once, and what one more process leaves of them.
use Rattle.std.proofs.Common.{◌≡◌, ◌<◌, ℕ, Bool, true, false, List, [], ◌∷◌, ◌++◌, get_or, Some, slice_get, sym, ap, ◌∙◌, true≢false, if◌then◌else◌, inl, inr, nat_eq}
use Rattle.std.specs.List.{list_any, IsDistinct}
use Rattle.std.proofs.lemmas.Bool.{cases_order}
use Rattle.std.proofs.lemmas.Bool.Decides.{Decides-eqb}
use Rattle.std.proofs.lemmas.Map.Keys.{apart_from_distinct}
use Rattle.std.proofs.lemmas.Option.{get_or_from_slice_get, slice_get_within}
use Rattle.indexmap.specs.IndexSet.{insert_key}
use Rattle.lin_lists.specs.lemmas.Lists.{get_left}
use Rattle.lin_wellformed.specs.Tables.{AreEachOnce, AreNumbers}

-- a process has no two places in a list of distinct ones, the first ahead of the second
none_later : (ks : List ℕ) → IsDistinct nat_eq ks → (m n process : ℕ) → slice_get ks m ≡ Some process → slice_get ks n ≡ Some process → m < n → ⊥
none_later ks distinct m n process at_m at_n below =
    let apart : nat_eq (get_or ks m 0) (get_or ks n 0) ≡ false = apart_from_distinct nat_eq ks m n 0 distinct below (slice_get_within ks n process at_n) in
    let same : get_or ks m 0 ≡ get_or ks n 0 = get_or_from_slice_get ks m process 0 at_m ∙ sym (get_or_from_slice_get ks n process 0 at_n) in
    true≢false (sym ((Decides-eqb (get_or ks m 0) (get_or ks n 0)).1 same) ∙ apart)

pub once_in : (ks : List ℕ) → IsDistinct nat_eq ks → AreEachOnce ks
once_in ks distinct m n process at_m at_n = elim (cases_order m n) [
  | inl is ↦ is
  | inr rest ↦ elim rest [
    | inl below ↦ absurd (none_later ks distinct m n process at_m at_n below)
    | inr above ↦ absurd (none_later ks distinct n m process at_n at_m above)
  ]
]

-- what is put in leaves the others where they stand
pub stays_at : (ks more : List ℕ) (k : ℕ) → more ≡ insert_key nat_eq ks k → (n other : ℕ) → slice_get ks n ≡ Some other → slice_get more n ≡ Some other
stays_at ks more k is n other at = by (list_any (nat_eq k) ks) is
  where
    by : (b : Bool) → more ≡ (if b then ks else ks ++ k ∷ []) → slice_get more n ≡ Some other
    by true e = ap (λ l. slice_get l n) e ∙ at
    by false e = ap (λ l. slice_get l n) e ∙ get_left ks k n other at

pub more_numbers : (ks more small : List ℕ) (k : ℕ) → more ≡ insert_key nat_eq ks k → IsDistinct nat_eq more → AreNumbers ks small → AreNumbers more small
more_numbers ks more small k is distinct was = record {
  once = once_in more distinct;
  kept = λ process number at. stays_at ks more k is number process (was.kept process number at);
}
