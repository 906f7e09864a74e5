-- Counts that stay at their greatest value, and how many events stand at places.
use Rattle.std.proofs.Common.{◌≡◌, ◌≤◌, ◌+◌, ◌-◌, ◌^◌, ℕ, zero, suc, List, [], ◌∷◌, Option, None, Some, length, slice_get, ap, ◌∙◌, arith}
use Rattle.std.specs.Prelude.{min}
use Rattle.std.specs.List.{cons_option}
use Rattle.lin_events.specs.declared.events.Event.{Event}
use Rattle.lin_events.specs.Meters.{ticked}
use Rattle.lin_order.specs.Parts.{events_at}

-- ticks on ticks
ticked_on : (count first more : ℕ) → ticked (ticked count first) more ≡ ticked count (first + more)
ticked_on count first zero = ap (ticked count) (omega arith)
ticked_on count first (suc more) =
    let next : suc (first + more) ≡ first + suc more = omega arith in
    ap (λ n. min (n + 1) (2 ^ 64 - 1)) (ticked_on count first more) ∙ ap (ticked count) next

pub then_ticked : (count first more now later : ℕ) → now ≡ ticked count first → later ≡ ticked now more → later ≡ ticked count (first + more)
then_ticked count first more now later one two = two ∙ ap (λ n. ticked n more) one ∙ ticked_on count first more

-- from a greater count on, a greater one
pub ticked_rising : (low high more : ℕ) → low ≤ high → ticked low more ≤ ticked high more
ticked_rising low high zero less = omega (arith, less)
ticked_rising low high (suc more) less = let rest = ticked_rising low high more less in omega arith

-- with more ticks a count is no less
rising : (count few many : ℕ) → count ≤ 2 ^ 64 - 1 → few ≤ many → ticked count few ≤ ticked count many
rising count zero zero low less = omega arith
rising count zero (suc many) low less = let rest = rising count zero many low (omega arith) in omega (arith, rest, low)
rising count (suc few) zero low less = elim less [ ]
rising count (suc few) (suc many) low less = let rest = rising count few many low (omega (arith, less)) in omega (arith, rest)

pub ticked_more : (count few many : ℕ) → count ≤ ticked count many → few ≤ many → ticked count few ≤ ticked count many
ticked_more count zero many least less = least
ticked_more count (suc few) zero least less = elim less [ ]
ticked_more count (suc few) (suc many) least less =
    let low : count ≤ 2 ^ 64 - 1 = omega (arith, least) in
    rising count (suc few) (suc many) low less

-- at places there are no more events than places
cons_most : (event : Option Event) (events : List Event) → length (cons_option event events) ≤ suc (length events)
cons_most None events = omega arith
cons_most (Some event) events = omega arith

pub events_most : (h : List Event) (picks : List ℕ) → length (events_at h picks) ≤ length picks
events_most h [] = omega arith
events_most h (at ∷ picks) =
    let one = cons_most (slice_get h at) (events_at h picks) in
    let rest = events_most h picks in
    omega arith
