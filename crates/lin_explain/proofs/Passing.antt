-- Passes through events, counted.
use Rattle.std.proofs.Common.{◌≡◌, ◌<◌, ◌≤◌, ◌+◌, ◌-◌, ◌*◌, ◌∙◌, ℕ, suc, List, length, slice_get, take, ap, sym, subst, arith}
use Rattle.std.proofs.Math.Nat.{suc-mul}
use Rattle.std.proofs.lemmas.List.{length-take-le}
use Rattle.std.proofs.lemmas.List.Sums.{count_by-le-length, length-filter}
use Rattle.lin_events.specs.declared.items.Item.{Item}
use Rattle.lin_events.specs.declared.events.Event.{Event}
use Rattle.lin_events.specs.Items.{item_eq}
use Rattle.lin_events.specs.Meters.{ticked}
use Rattle.lin_order.specs.Parts.{part}
use Rattle.lin_answers.specs.Edits.{Present}
use Rattle.lin_possibilities.specs.lemmas.Ticks.{ticked_more, ticked_on, ticked_within}
use Rattle.lin_explain.specs.declared.fallen.Fallen.{Fallen}
use Rattle.lin_explain.specs.declared.own.Own.{Own}
use Rattle.lin_explain.specs.Work.{own_count}
use Rattle.lin_explain.specs.inner.Fallen.{IsFallen}
use Rattle.lin_explain.specs.inner.Own.{IsOwn}

pub next_pass : (at count : ℕ) → (at + 1) * count ≡ at * count + count
next_pass at count = let next : at + 1 ≡ suc at = omega arith in ap (λ n. n * count) next ∙ suc-mul at count

-- an object has no more events than the history
pub part_within : (key : Item) (h : List Event) → length (part key h) ≤ length h
part_within key h =
    let test = λ (event : Event). item_eq event.key key in
    let is = length-filter test h in
    let few = count_by-le-length test h in
    omega (arith, is, few)

pub own_within : (key : Item) (n : ℕ) (h : List Event) → n ≤ length h → length (part key (take n h)) ≤ n
own_within key n h within =
    let few = part_within key (take n h) in
    let size = length-take-le n h within in
    omega (arith, few, size)

-- a pass through the first events, and then so many
pub passed_on : (before first more mid after : ℕ) → mid ≡ ticked before first → ticked mid more ≤ after → ticked before (first + more) ≤ after
passed_on before first more mid after is counted =
    let on : ticked mid more ≡ ticked before (first + more) = ap (λ n. ticked n more) is ∙ ticked_on before first more in
    subst (λ n. n ≤ after) on counted

-- the same where fewer are asked for
pub passed_least : (before first more least mid after : ℕ) → 0 < first → before ≤ mid → mid ≡ ticked before first → ticked mid more ≤ after → least ≤ first + more → ticked before least ≤ after
passed_least before first more least mid after some risen is counted less =
    let within = ticked_within before first some in
    let all = ticked_more before least (first + more) (omega (arith, risen, is, within)) less in
    let whole = passed_on before first more mid after is counted in
    omega (arith, all, whole)

-- the events up to a place, and then the others
pub passed_whole : (before mid after from count : ℕ) → from ≤ count → mid ≡ ticked before from → after ≡ ticked mid (count - from) → ticked before count ≤ after
passed_whole before mid after from count within first others =
    let whole : from + (count - from) ≡ count = omega (arith, within) in
    let counted = passed_on before from (count - from) mid after first (omega (arith, others)) in
    subst (λ n. ticked before n ≤ after) whole counted

-- as many as of the object of the event that the answer names
pub own_is : (now : Present) (n : ℕ) (fallen : Fallen) → IsFallen now n fallen → own_count (slice_get now.history (n - 1)) (take n now.history) ≡ length fallen.own.events.items
own_is now n fallen is = ap (λ found. own_count found (take n now.history)) is.stands ∙ ap length (sym is.own_of.events_of)

pub own_fits : (key : Item) (n : ℕ) (h : List Event) (own : Own) → IsOwn key (take n h) own → n ≤ length h → length own.events.items ≤ n
own_fits key n h own is within = subst (λ l. length l ≤ n) (sym is.events_of) (own_within key n h within)
