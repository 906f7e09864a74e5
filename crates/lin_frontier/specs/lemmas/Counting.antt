-- Counts of tries.
use Rattle.std.proofs.Common.{◌≡◌, ℕ, suc, ◌+◌, ◌*◌, ◌≤◌, refl, ap, subst, ◌∙◌, arith}
use Rattle.std.proofs.Math.Nat.{mul-add, suc-mul}
use Rattle.std.proofs.lemmas.Nat.{mul-le}
use Rattle.lin_events.specs.declared.meter.Meter.{Meter}
use Rattle.lin_frontier.specs.Walks.{IsTriedAtMost}

pub tried_none : (most : ℕ) (m : Meter) → IsTriedAtMost most m m
tried_none most m = record { steps = refl; scans = refl; tries = omega arith }

pub tried_more : (a b most : ℕ) (m n k : Meter) → a + b ≤ most → IsTriedAtMost a m n → IsTriedAtMost b n k → IsTriedAtMost most m k
tried_more a b most m n k within s t =
    let p = s.tries in
    let q = t.tries in
    record { steps = t.steps ∙ s.steps; scans = t.scans ∙ s.scans; tries = omega arith }

-- no more than a number, so no more than a greater one
pub tried_up : (a b : ℕ) (m n : Meter) → a ≤ b → IsTriedAtMost a m n → IsTriedAtMost b m n
tried_up a b m n within s =
    let p = s.tries in
    record { steps = s.steps; scans = s.scans; tries = omega arith }

-- one turn more, of those that are worked off
pub tried_turn : (at most : ℕ) (m n k : Meter) → IsTriedAtMost (at * most) m n → IsTriedAtMost most n k → IsTriedAtMost ((at + 1) * most) m k
tried_turn at most m n k s t =
    let next : at + 1 ≡ suc at = omega arith in
    let same : (at + 1) * most ≡ at * most + most = ap (λ i. i * most) next ∙ suc-mul at most in
    tried_more (at * most) most ((at + 1) * most) m n k (omega arith) s t

pub tried_turns : (at budget most : ℕ) (m n : Meter) → at ≤ budget → IsTriedAtMost (at * most) m n → IsTriedAtMost (budget * most) m n
tried_turns at budget most m n within s =
    let p = s.tries in
    let q = mul-le at most budget most within (omega arith) in
    record { steps = s.steps; scans = s.scans; tries = omega arith }

-- of a list that is at most one longer, and of so many members each
pub tried_within : (limit k a b : ℕ) (m n : Meter) → a ≤ b + 1 → IsTriedAtMost (limit * (2 * a + 1) + k * (2 * ((a + 1) * (a + 1)))) m n → IsTriedAtMost (limit * (2 * b + 3) + k * (2 * ((b + 2) * (b + 2)))) m n
tried_within limit k a b m n within s =
    let p = s.tries in
    let q = mul-le limit (2 * a + 1) limit (2 * b + 3) (omega arith) (omega arith) in
    let r = mul-le (a + 1) (a + 1) (b + 2) (b + 2) (omega arith) (omega arith) in
    let t = mul-le 2 ((a + 1) * (a + 1)) 2 ((b + 2) * (b + 2)) (omega arith) r in
    let u = mul-le k (2 * ((a + 1) * (a + 1))) k (2 * ((b + 2) * (b + 2))) (omega arith) t in
    record { steps = s.steps; scans = s.scans; tries = omega arith }

-- of a longer list
pub tried_longer : (budget a b : ℕ) (m n : Meter) → a ≤ b → IsTriedAtMost (budget * a) m n → IsTriedAtMost (budget * b) m n
tried_longer budget a b m n within s =
    let p = s.tries in
    let q = mul-le budget a budget b (omega arith) within in
    record { steps = s.steps; scans = s.scans; tries = omega arith }

-- counted from a meter with the same tries, for as many members
pub tried_since : (old mid new : Meter) (most k among each : ℕ) → mid.tries ≡ old.tries → k ≡ among → IsTriedAtMost (most + k * each) mid new → new.tries ≤ old.tries + (most + among * each)
tried_since old mid new most k among each same many s = subst (λ j. new.tries ≤ old.tries + (most + j * each)) many (subst (λ t. new.tries ≤ t + (most + k * each)) same s.tries)

-- a search within the budget, and a count behind it
pub tried_both : (old mid new : Meter) (limit budget len more : ℕ) → limit ≤ budget → mid.tries ≤ old.tries + (limit * (2 * len + 3) + more) → IsTriedAtMost (budget * (2 * len + 1)) mid new → new.tries ≤ old.tries + (budget * (4 * len + 4) + more)
tried_both old mid new limit budget len more within first s =
    let p = s.tries in
    let q = mul-le limit (2 * len + 3) budget (2 * len + 3) within (omega arith) in
    let apart : budget * ((2 * len + 3) + (2 * len + 1)) ≡ budget * (2 * len + 3) + budget * (2 * len + 1) = mul-add budget (2 * len + 3) (2 * len + 1) in
    let all : (2 * len + 3) + (2 * len + 1) ≡ 4 * len + 4 = omega arith in
    let same = ap (λ n. budget * n) all in
    omega (arith, first, apart, same)
