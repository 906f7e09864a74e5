-- Counts that stay at their greatest value.
use Rattle.std.proofs.Common.{◌≡◌, ◌<◌, ◌≤◌, ◌+◌, ◌-◌, ◌^◌, ◌∙◌, ℕ, zero, suc, min, ap, arith}
use Rattle.lin_events.specs.Meters.{ticked}

-- ticks on ticks
pub ticked_on : (count first more : ℕ) → ticked (ticked count first) more ≡ ticked count (first + more)
ticked_on count first zero = ap (ticked count) (omega arith)
ticked_on count first (suc more) =
    let next : suc (first + more) ≡ first + suc more = omega arith in
    ap (λ n. min (n + 1) (2 ^ 64 - 1)) (ticked_on count first more) ∙ ap (ticked count) next

-- a count for each of those from a place on: none at first, and one more for the next one
pub ticked_none : (from count : ℕ) → count ≡ ticked count (from - from)
ticked_none from count = let none : 0 ≡ from - from = omega arith in ap (ticked count) none

pub ticked_next : (from at count before now : ℕ) → from ≤ at → before ≡ ticked count (at - from) → now ≡ ticked before 1 → now ≡ ticked count ((at + 1) - from)
ticked_next from at count before now behind so_far one =
    let next : suc (at - from) ≡ (at + 1) - from = omega (arith, behind) in
    one ∙ ap (λ n. ticked n 1) so_far ∙ ap (ticked count) next

-- no more than are ticked
pub ticked_most : (count more : ℕ) → ticked count more ≤ count + more
ticked_most count zero = omega arith
ticked_most count (suc more) = let rest = ticked_most count more in omega (arith, rest)

-- from a greater count on, a greater one
pub ticked_rising : (low high more : ℕ) → low ≤ high → ticked low more ≤ ticked high more
ticked_rising low high zero less = omega (arith, less)
ticked_rising low high (suc more) less = let rest = ticked_rising low high more less in omega (arith, rest)

-- with more ticks a count is no less
pub ticked_more : (count few many : ℕ) → count ≤ 2 ^ 64 - 1 → few ≤ many → ticked count few ≤ ticked count many
ticked_more count zero zero low less = omega arith
ticked_more count zero (suc many) low less = let rest = ticked_more count zero many low (omega arith) in omega (arith, rest, low)
ticked_more count (suc few) zero low less = elim less [ ]
ticked_more count (suc few) (suc many) low less = let rest = ticked_more count few many low (omega (arith, less)) in omega (arith, rest)

-- ticked at all, it is one of 64 bits
pub ticked_within : (count many : ℕ) → 0 < many → ticked count many ≤ 2 ^ 64 - 1
ticked_within count zero some = elim some [ ]
ticked_within count (suc many) some = omega arith
