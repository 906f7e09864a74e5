-- Tries where members don't count, or are no more than the budget.
use Rattle.std.proofs.Common.{◌≡◌, ℕ, ◌+◌, ◌*◌, ◌≤◌, Bool, true, false, true≢false, refl, ap, sym, ◌∙◌, arith}
use Rattle.std.proofs.Math.Nat.{mul-add}
use Rattle.std.proofs.lemmas.Nat.{mul-le}
use Rattle.lin_events.specs.declared.meter.Meter.{Meter}
use Rattle.lin_frontier.specs.Walks.{IsTriedAtMost}
use Rattle.lin_frontier.specs.lemmas.Counting.{tried_both}

-- where nothing is overwritten, a frontier goes on without overwritten updates
pub goes_alone : (alone overwriting : Bool) → (alone ≡ false → overwriting ≡ true) → overwriting ≡ false → alone ≡ true
goes_alone true overwriting goes plain = refl
goes_alone false overwriting goes plain = absurd (true≢false (sym (goes refl) ∙ plain))

-- a search within the budget
pub searched_up : (old new : Meter) (limit budget len : ℕ) → limit ≤ budget → new.tries ≤ old.tries + limit * (2 * len + 3) → new.tries ≤ old.tries + budget * (4 * len + 4)
searched_up old new limit budget len within s =
    let all = mul-le limit (2 * len + 3) budget (4 * len + 4) within (omega arith) in
    omega (arith, s, all)

-- and a count behind it
pub searched_both : (old mid new : Meter) (limit budget len : ℕ) → limit ≤ budget → mid.tries ≤ old.tries + limit * (2 * len + 3) → IsTriedAtMost (budget * (2 * len + 1)) mid new → new.tries ≤ old.tries + budget * (4 * len + 4)
searched_both old mid new limit budget len within first s =
    let all = tried_both old mid new limit budget len 0 within (omega arith) s in
    omega arith

-- as many members as the budget at most
few : (budget k low each : ℕ) → low ≤ each → k ≤ budget → budget * low + k * (2 * each) ≤ budget * (3 * each)
few budget k low each less within =
    let p = mul-le budget low budget each (omega arith) less in
    let q = mul-le k (2 * each) budget (2 * each) within (omega arith) in
    let apart : budget * (each + 2 * each) ≡ budget * each + budget * (2 * each) = mul-add budget each (2 * each) in
    let all : each + 2 * each ≡ 3 * each = omega arith in
    let same = ap (λ n. budget * n) all in
    omega (arith, p, q, apart, same)

pub tried_few : (old new : Meter) (budget k len : ℕ) → k ≤ budget → new.tries ≤ old.tries + (budget * (4 * len + 4) + k * (2 * ((len + 2) * (len + 2)))) → new.tries ≤ old.tries + budget * (3 * ((len + 2) * (len + 2)))
tried_few old new budget k len within s =
    let apart : (len + 2) * (len + 2) ≡ (len + 2) * len + (len + 2) * 2 = mul-add (len + 2) len 2 in
    let least = mul-le 2 len (len + 2) len (omega arith) (omega arith) in
    let p = few budget k (4 * len + 4) ((len + 2) * (len + 2)) (omega (arith, apart, least)) within in
    omega (arith, s, p)
