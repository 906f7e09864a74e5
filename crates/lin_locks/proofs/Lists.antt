-- Places that are many, and one of them taken away.
use Rattle.std.proofs.Common.{◌≡◌, ◌≢◌, ◌<◌, ◌≤◌, ◌+◌, ℕ, zero, suc, List, [], ◌∷◌, ◌++◌, ◌⊎◌, AllPairs, Contains, Some, length, slice_get, get_or, take, drop, inl, inr, refl, sym, ap, subst, ◌∙◌, arith, add-one, length-append}
use Rattle.std.specs.List.{remove}
use Rattle.std.proofs.lemmas.Bool.{cases_eq}
use Rattle.std.proofs.lemmas.Option.{get_or_from_slice_get, slice_get_within}
use Rattle.std.proofs.lemmas.List.Elements.{All-contains, Contains-append_right}
use Rattle.std.proofs.lemmas.List.Kept.{AllPairs-cons}
use Rattle.std.proofs.lemmas.List.Quantifiers.{all_pairs_remove}
use Rattle.lin_lists.specs.lemmas.Elements.{all_of, first_or_rest, nothing_in}
use Rattle.lin_certificates.specs.Numbers.{AtLeast}
use Rattle.lin_certificates.specs.lemmas.Counting.{first_apart, no_more, pairs_rest}
use Rattle.lin_locks.specs.inner.Debts.{AreAll}

-- the list without one place
pub record Without (at : ℕ) (places rest : List ℕ) : Type 0 where
  pub apart : AllPairs ◌≢◌ rest
  pub from : (x : ℕ) → Contains rest x → Contains places x × (x ≢ at)
  pub all : (x : ℕ) → Contains places x → x ≢ at → Contains rest x
  pub many : length places ≤ length rest + 1
  pub one : Contains places at → length rest + 1 ≡ length places

pub without : (at : ℕ) (places : List ℕ) → AllPairs ◌≢◌ places → (rest : List ℕ) × Without at places rest
without at [] apart = (
  [],
  record {
    apart = apart;
    from = λ x there. absurd (nothing_in x there);
    all = λ x there other. there;
    many = omega arith;
    one = λ there. absurd (nothing_in at there);
  },
)
without at (x ∷ places) apart =
    let more = without at places (pairs_rest ◌≢◌ x places apart) in
    let w = more.1 in
    elim (cases_eq x at) [
      | inl same ↦ (
        places,
        record {
          apart = pairs_rest ◌≢◌ x places apart;
          from = λ y there. (Contains-append_right (x ∷ []) places y there, λ is. first_apart ◌≢◌ x places apart y there (same ∙ sym is));
          all = λ y there other. elim (first_or_rest x places y there) [
            | inl here ↦ absurd (other (sym here ∙ same))
            | inr later ↦ later
          ];
          many = omega arith;
          one = λ there. omega arith;
        },
      )
      | inr differ ↦ (
        x ∷ more.0,
        record {
          apart = AllPairs-cons ◌≢◌ x more.0 (all_of (λ y. x ≢ y) more.0 (λ y there. first_apart ◌≢◌ x places apart y (w.from y there).0)) w.apart;
          from = λ y there. elim (first_or_rest x more.0 y there) [
            | inl here ↦ ((0, omega arith, here), λ is. differ (here ∙ is))
            | inr later ↦ let was = w.from y later in (Contains-append_right (x ∷ []) places y was.0, was.1)
          ];
          all = λ y there other. elim (first_or_rest x places y there) [
            | inl here ↦ (0, omega arith, here)
            | inr later ↦ Contains-append_right (x ∷ []) more.0 y (w.all y later other)
          ];
          many = let few = w.many in omega arith;
          one = λ there. elim (first_or_rest x places at there) [
            | inl here ↦ absurd (differ here)
            | inr later ↦ let as_many = w.one later in omega arith
          ];
        },
      )
    ]

-- so many of a list's places are such, if all are
pub least_of_list : (k : ℕ) (P : ℕ → Type 0) (places : List ℕ) → AllPairs ◌≢◌ places → ((at : ℕ) → Contains places at → P at) → k ≤ length places → AtLeast k P
least_of_list zero P places apart each fits = ([], refl, (λ i j d before within. absurd (omega (arith, within))), all_of P [] (λ at there. absurd (nothing_in at there)))
least_of_list (suc k) P [] apart each fits = absurd (omega (arith, fits))
least_of_list (suc k) P (x ∷ places) apart each fits =
    let rest = least_of_list k (λ at. P at × Contains places at) places (pairs_rest ◌≢◌ x places apart) (λ at there. (each at (Contains-append_right (x ∷ []) places at there), there)) (omega (arith, fits)) in
    let was = λ (at : ℕ) (there : Contains rest.0 at). All-contains (λ y. P y × Contains places y) rest.0 at rest.3 there in
    let many = rest.1 in (
      x ∷ rest.0,
      omega (arith, many),
      AllPairs-cons ◌≢◌ x rest.0 (all_of (λ at. x ≢ at) rest.0 (λ at there. first_apart ◌≢◌ x places apart at (was at there).1)) rest.2,
      all_of P (x ∷ rest.0) (λ at there. elim (first_or_rest x rest.0 at there) [
        | inl here ↦ subst P here (each x (0, omega arith, refl))
        | inr later ↦ (was at later).0
      ]),
    )

-- as many are such as are such that are so too
pub least_map : (k : ℕ) (P Q : ℕ → Type 0) → ((at : ℕ) → P at → Q at) → AtLeast k P → AtLeast k Q
least_map k P Q each found = (found.0, found.1, found.2, all_of Q found.0 (λ at there. each at (All-contains P found.0 at found.3 there)))

-- and at least one fewer without one place
pub least_without : (k : ℕ) (P : ℕ → Type 0) (at : ℕ) → AtLeast (k + 1) P → AtLeast k (λ x. P x × (x ≢ at))
least_without k P at found =
    let rest = without at found.0 found.2 in
    let many = rest.1.many in
    let all = found.1 in
    least_of_list k (λ x. P x × (x ≢ at)) rest.0 rest.1.apart (λ x there. let was = rest.1.from x there in (All-contains P found.0 x found.3 was.0, was.1)) (omega (arith, many, all))

-- no more are such than a list has that has them all
pub least_fits : (k : ℕ) (P : ℕ → Type 0) (places : List ℕ) → ((at : ℕ) → P at → Contains places at) → AtLeast k P → k ≤ length places
least_fits k P places each found =
    let fits = no_more found.0 places found.2 (λ at there. each at (All-contains P found.0 at found.3 there)) in
    let many = found.1 in
    omega (arith, fits, many)

module _ {P Q : ℕ → Type 0} (places : List ℕ) (is : AreAll P places) where
  pub all_map : ((at : ℕ) → P at → Q at) → ((at : ℕ) → Q at → P at) → AreAll Q places
  all_map to from = record { apart = is.apart; are = λ at there. to at (is.are at there); all = λ at such. is.all at (from at such) }

  -- one place more
  pub all_with : (x : ℕ) → (P x → ⊥) → Q x → ((at : ℕ) → P at → Q at) → ((at : ℕ) → Q at → P at ⊎ (at ≡ x)) → AreAll Q (x ∷ places)
  all_with x none here to from = record {
    apart = AllPairs-cons ◌≢◌ x places (all_of (λ at. x ≢ at) places (λ at there same. none (subst P (sym same) (is.are at there)))) is.apart;
    are = λ at there. elim (first_or_rest x places at there) [
      | inl same ↦ subst Q same here
      | inr later ↦ to at (is.are at later)
    ];
    all = λ at such. elim (from at such) [
      | inl old ↦ Contains-append_right (x ∷ []) places at (is.all at old)
      | inr new ↦ (0, omega arith, sym new)
    ];
  }

-- an element of two lists in one, and of the same with one between
pub beside_one : {A : Type 0} (before : List A) (x : A) (behind : List A) (k : ℕ) (y : A) → slice_get (before ++ behind) k ≡ Some y
    → (Contains before y × (slice_get (before ++ x ∷ behind) k ≡ Some y)) ⊎ (slice_get (before ++ x ∷ behind) (k + 1) ≡ Some y)
beside_one [] x behind k y there = inr (ap (λ n. slice_get (x ∷ behind) n) (add-one k) ∙ there)
beside_one {A} (b ∷ before) x behind zero y there = inl ((0, omega arith, same there), there)
  where
    same : {a c : A} → Some a ≡ Some c → a ≡ c
    same e = cc
beside_one (b ∷ before) x behind (suc k) y there = elim (beside_one before x behind k y there) [
  | inl early ↦ inl (Contains-append_right (b ∷ []) before y early.0, early.1)
  | inr late ↦ inr (ap (λ n. slice_get (b ∷ (before ++ x ∷ behind)) n) (next k) ∙ late)
]
  where
    next : (n : ℕ) → suc n + 1 ≡ suc (n + 1)
    next n = omega arith

-- what a list has is there without the element at a place, unless it is that one
pub in_removed : (xs : List ℕ) (i y : ℕ) → Contains xs y → ((d : ℕ) → get_or xs i d ≢ y) → Contains (remove xs i) y
in_removed [] i y there other = absurd (nothing_in y there)
in_removed (x ∷ xs) zero y there other = elim (first_or_rest x xs y there) [
  | inl here ↦ absurd (other x here)
  | inr later ↦ later
]
in_removed (x ∷ xs) (suc i) y there other = elim (first_or_rest x xs y there) [
  | inl here ↦ (0, omega arith, here)
  | inr later ↦ Contains-append_right (x ∷ []) (remove xs i) y (in_removed xs i y later other)
]

pub from_removed : (xs : List ℕ) (i y : ℕ) → Contains (remove xs i) y → Contains xs y
from_removed [] zero y there = there
from_removed [] (suc i) y there = there
from_removed (x ∷ xs) zero y there = Contains-append_right (x ∷ []) xs y there
from_removed (x ∷ xs) (suc i) y there = elim (first_or_rest x (remove xs i) y there) [
  | inl here ↦ (0, omega arith, here)
  | inr later ↦ Contains-append_right (x ∷ []) xs y (from_removed xs i y later)
]

-- a list in two parts round one of its places
pub round_place : {A : Type 0} (xs : List A) (i : ℕ) (x : A) → i < length xs → get_or xs i x ≡ x → xs ≡ take i xs ++ x ∷ drop (suc i) xs
round_place [] i x inside is = absurd (omega (arith, inside))
round_place (y ∷ xs) zero x inside is = ap (λ z. z ∷ xs) is
round_place (y ∷ xs) (suc i) x inside is = ap (λ l. y ∷ l) (round_place xs i x (omega (arith, inside)) is)

-- an element at a place
pub there_in : {A : Type 0} (xs : List A) (k : ℕ) (x : A) → slice_get xs k ≡ Some x → Contains xs x
there_in xs k x there = (k, slice_get_within xs k x there, get_or_from_slice_get xs k x x there)

-- what holds of each pair of a list holds of each without one element
pub pairs_without : {A : Type 0} (R : A → A → Type 0) (before : List A) (x : A) (behind : List A) → AllPairs R (before ++ x ∷ behind) → AllPairs R (before ++ behind)
pairs_without R before x behind all = subst (AllPairs R) (removed_between before x behind) (all_pairs_remove R (before ++ x ∷ behind) (length before) inside all)
  where
    inside : length before < length (before ++ x ∷ behind)
    inside = let many = length-append before (x ∷ behind) in omega arith

    removed_between : {A : Type 0} (l : List A) (y : A) (r : List A) → remove (l ++ y ∷ r) (length l) ≡ l ++ r
    removed_between [] y r = refl
    removed_between (z ∷ l) y r = ap (λ k. z ∷ k) (removed_between l y r)
