-- Bytes of a run, a few at a time.
use Rattle.std.proofs.Common.{◌≡◌, ℕ, ◌+◌, ◌<◌, ◌≤◌, inl, inr, false, true, List, get_or, sym, ap, ◌∙◌, arith}
use Rattle.std.proofs.lemmas.Bool.{cases_lt}
use Rattle.lin_bytes.specs.Bytes.{is_stop}
use Rattle.lin_edn.specs.Scans.{IsStopAt}

-- no byte between two places stops a run
abbrev pub IsClear : List ℕ → ℕ → ℕ → Type 0
IsClear s from at = (i : ℕ) → from ≤ i → i < at → is_stop (get_or s i 0) ≡ false

pub none_clear : (s : List ℕ) (from : ℕ) → IsClear s from from
none_clear s from i a b = absurd (omega arith)

pub clear_more : (s : List ℕ) (from at : ℕ) → IsClear s from at → is_stop (get_or s at 0) ≡ false → IsClear s from (at + 1)
clear_more s from at h stop i a b = elim (cases_lt i at) [
  | inl lt ↦ h i a lt
  | inr le ↦ (let e : i ≡ at = omega arith in ap (λ n. is_stop (get_or s n 0)) e ∙ stop)
]

pub clear_to : (s : List ℕ) (from at next : ℕ) → at ≡ next → IsClear s from at → IsClear s from next
clear_to s from at next e h i a b = h i a (omega arith)

pub stops_here : (s : List ℕ) (from at end : ℕ) → from ≤ at → at ≤ end → IsClear s from at → is_stop (get_or s at 0) ≡ true → IsStopAt is_stop s from end at
stops_here s from at end a b h stop = (a, b, h, λ lt. stop)

-- what ends a run from a place on, ends it from an earlier one on
pub stops_on : (s : List ℕ) (from at end r : ℕ) → from ≤ at → IsClear s from at → IsStopAt is_stop s at end r → IsStopAt is_stop s from end r
stops_on s from at end r a h stop = (
  (let b : at ≤ r = stop.0 in omega arith),
  stop.1,
  λ i c d. elim (cases_lt i at) [
    | inl lt ↦ h i c lt
    | inr le ↦ stop.2 i le d
  ],
  stop.3,
)

-- two, three and four bytes
pub clear_two : (s : List ℕ) (from at : ℕ) → IsClear s from at → false ≡ is_stop (get_or s at 0) → false ≡ is_stop (get_or s (at + 1) 0) → IsClear s from (at + 2)
clear_two s from at h a b = clear_to s from (at + 1 + 1) (at + 2) (omega arith) (clear_more s from (at + 1) (clear_more s from at h (sym a)) (sym b))

pub clear_three : (s : List ℕ) (from at : ℕ) → IsClear s from at → false ≡ is_stop (get_or s at 0) → false ≡ is_stop (get_or s (at + 1) 0) →
    false ≡ is_stop (get_or s (at + 2) 0) → IsClear s from (at + 3)
clear_three s from at h a b c = clear_to s from (at + 2 + 1) (at + 3) (omega arith) (clear_more s from (at + 2) (clear_two s from at h a b) (sym c))

pub clear_four : (s : List ℕ) (from at : ℕ) → IsClear s from at → false ≡ is_stop (get_or s at 0) → false ≡ is_stop (get_or s (at + 1) 0) →
    false ≡ is_stop (get_or s (at + 2) 0) → false ≡ is_stop (get_or s (at + 3) 0) → IsClear s from (at + 4)
clear_four s from at h a b c d = clear_to s from (at + 3 + 1) (at + 4) (omega arith) (clear_more s from (at + 3) (clear_three s from at h a b c) (sym d))
