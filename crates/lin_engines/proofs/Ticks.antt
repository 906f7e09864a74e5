-- Counts that stay at their greatest value.
use Rattle.std.proofs.Common.{◌≡◌, ◌≤◌, ◌+◌, ◌-◌, ◌^◌, ℕ, zero, suc, ap, subst, ◌∙◌, arith}
use Rattle.std.specs.Prelude.{min}
use Rattle.lin_events.specs.Meters.{ticked}

-- ticks on ticks
ticked_on : (count first more : ℕ) → ticked (ticked count first) more ≡ ticked count (first + more)
ticked_on count first zero = ap (ticked count) (omega arith)
ticked_on count first (suc more) =
    let next : suc (first + more) ≡ first + suc more = omega arith in
    ap (λ n. min (n + 1) (2 ^ 64 - 1)) (ticked_on count first more) ∙ ap (ticked count) next

-- from a greater count on, a greater one
ticked_rising : (low high more : ℕ) → low ≤ high → ticked low more ≤ ticked high more
ticked_rising low high zero less = omega (arith, less)
ticked_rising low high (suc more) less = let rest = ticked_rising low high more less in omega arith

-- some events are counted for, then some more
pub counted_then : (count now later start mid end : ℕ) → start ≤ mid → mid ≤ end → ticked count (mid - start) ≤ now → ticked now (end - mid) ≤ later → ticked count (end - start) ≤ later
counted_then count now later start mid end first then one two =
    let all : (mid - start) + (end - mid) ≡ end - start = omega (arith, first, then) in
    let rest = ticked_rising (ticked count (mid - start)) now (end - mid) one in
    let on = ticked_on count (mid - start) (end - mid) in
    subst (λ n. ticked count n ≤ later) all (omega (arith, rest, on, two))
