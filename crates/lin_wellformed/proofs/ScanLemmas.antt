-- Scans that are right, and stay so.
use Rattle.std.proofs.Common.{◌≡◌, ◌≢◌, ℕ, ◌+◌, ◌-◌, ◌^◌, min, ◌<◌, ◌≤◌, zero, suc, Bool, List, [], ◌∷◌, ◌++◌, length, take, ◌⊎◌, inl, inr, refl, sym, ap, ◌∙◌, subst, arith}
use Rattle.std.proofs.lemmas.Bool.{cases_lt}
use Rattle.std.proofs.lemmas.List.{map-append, take-map, take-take, take_all, length-take, length-take-le, length_push}
use Rattle.std.proofs.lemmas.Option.{slice_get_within}
use Rattle.lin_events.specs.declared.items.Item.{Item}
use Rattle.lin_events.specs.declared.calls.Name.{Name}
use Rattle.lin_events.specs.declared.events.Event.{Event}
use Rattle.lin_events.specs.declared.meter.Meter.{Meter}
use Rattle.lin_events.specs.Meters.{ticked}
use Rattle.lin_events.specs.Operations.{IsEvent}
use Rattle.lin_events.specs.WellFormedLaws.{BadWithinBeginnings, NoCauseIsGood, SameFunctionsSameShape}
use Rattle.lin_objects.specs.declared.kinds.Kind.{Kind}
use Rattle.lin_objects.specs.Kinds.{functions_of}
use Rattle.lin_objects.specs.Steps.{allows}
use Rattle.lin_wellformed.specs.declared.scan.Scan.{Scan}
use Rattle.lin_events.specs.declared.shapes.Cause.{Cause}
use Rattle.lin_events.specs.declared.shapes.Shape.{Shape}
use Rattle.lin_events.specs.declared.shapes.Shape.TheVariants.{Good, Bad}
use Rattle.lin_events.specs.declared.shapes.ProcessStatus.{ProcessStatus}
use Rattle.lin_wellformed.specs.Scans.{ready_count, IsRight, AgreeBefore, looked_at, good_count, processes_of}
use Rattle.lin_events.specs.WellFormed.{IsStatus, Holds, IsFirstCause, IsBad, IsShape}
use Rattle.lin_lists.specs.lemmas.Lists.{get_taken, take_next}

-- where the loop ends: all events are taken in, or one is bad
abbrev pub IsOver : List Event → Scan → Type 0
IsOver h scan = (length h ≤ ready_count scan) ⊎ (scan.shape ≢ Good)

-- the bad event is one of those that were taken in
bad_taken : (kinds : Item → Kind) (h : List Event) (scan : Scan) (at : ℕ) (cause : Cause) → IsRight scan kinds h → scan.shape ≡ Bad at cause → at < ready_count scan
bad_taken kinds h scan at cause right bad =
    let was : IsShape (functions_of kinds) (take (ready_count scan) h) (Bad at cause) = subst (IsShape (functions_of kinds) (take (ready_count scan) h)) bad right.shaped in
    (get_taken (ready_count scan) h at was.0.event was.0.stands).0

-- so the table has no more than those
table_within : (kinds : Item → Kind) (h : List Event) (scan : Scan) → IsRight scan kinds h → length scan.table ≤ ready_count scan
table_within kinds h scan right = by scan.shape refl
  where
    by : (shape : Shape) → scan.shape ≡ shape → length scan.table ≤ ready_count scan
    by Good good = let same = right.counted ∙ ap (λ s. good_count s (ready_count scan)) good in omega arith
    by (Bad at cause) bad =
        let same = right.counted ∙ ap (λ s. good_count s (ready_count scan)) bad in
        let inside = bad_taken kinds h scan at cause right bad in
        omega arith

-- the processes of one more event
processes_next : (h : List Event) (n : ℕ) (event : Event) → IsEvent h n event → processes_of (take (n + 1) h) ≡ processes_of (take n h) ++ event.process ∷ []
processes_next h n event stands =
    let one_more : suc n ≡ n + 1 = omega arith in
    ap (λ m. processes_of (take m h)) (sym one_more) ∙ ap processes_of (take_next n h event stands) ∙ map-append (λ (e : Event). e.process) (take n h) (event ∷ [])

module _ (beginnings : BadWithinBeginnings) where
  -- what is bad in a beginning is bad
  bad_longer : (functions : Item → Name → Bool) (h : List Event) (n at : ℕ) (cause : Cause) → IsBad functions (take n h) at cause → IsBad functions h at cause
  bad_longer functions h n at cause bad = ((beginnings functions h n at cause).0 bad).1

  -- and what is bad inside a beginning is bad in it
  bad_shorter : (functions : Item → Name → Bool) (h : List Event) (n at : ℕ) (cause : Cause) → at < n → IsBad functions h at cause → IsBad functions (take n h) at cause
  bad_shorter functions h n at cause below bad = (beginnings functions h n at cause).1 (below, bad)

  -- no event so far is bad, and the table has the processes of all
  record Before (kinds : Item → Kind) (h : List Event) (scan : Scan) : Type 0 where
    all : length scan.table ≡ ready_count scan
    good : (k : ℕ) (cause : Cause) → k < ready_count scan → IsBad (functions_of kinds) h k cause → ⊥

  before_event : (kinds : Item → Kind) (h : List Event) (scan : Scan) → IsRight scan kinds h → scan.shape ≡ Good → Before kinds h scan
  before_event kinds h scan right good = record {
    all = right.counted ∙ ap (λ s. good_count s (ready_count scan)) good;
    good = λ k cause below bad. was k cause (bad_shorter (functions_of kinds) h (ready_count scan) k cause below bad);
  }
    where
      was : IsShape (functions_of kinds) (take (ready_count scan) h) Good
      was = subst (IsShape (functions_of kinds) (take (ready_count scan) h)) good right.shaped

  -- one more event, that is not bad
  pub right_next : NoCauseIsGood → (kinds : Item → Kind) (h : List Event) (old : Scan) (table : List ℕ) (event : Event) (status : ProcessStatus) → IsRight old kinds h → old.shape ≡ Good → IsEvent h (ready_count old) event
      → IsStatus (take (ready_count old) h) event.process status → ((cause : Cause) → Holds (functions_of kinds) status event cause → ⊥) → table ≡ old.table ++ event.process ∷ []
      → IsRight (record { ready = ready_count old + 1; shape = old.shape; table = table }) kinds h
  right_next good_where kinds h old table event status right good stands found none taken = record {
    within = let inside = slice_get_within h (ready_count old) event stands in omega arith;
    shaped = subst (IsShape (functions_of kinds) (take (ready_count old + 1) h)) (sym good) good_next;
    counted = count ∙ ap (λ s. good_count s (ready_count old + 1)) (sym good);
    listed = taken ∙ ap (λ l. l ++ event.process ∷ []) (right.listed ∙ ap (λ n. processes_of (take n h)) so_far.all)
        ∙ sym (processes_next h (ready_count old) event stands) ∙ ap (λ n. processes_of (take n h)) (sym count);
  }
    where
      so_far : Before kinds h old
      so_far = before_event kinds h old right good

      count : length table ≡ ready_count old + 1
      count = let long = ap length taken ∙ length_push old.table event.process in let all = so_far.all in omega arith

      good_next : (k : ℕ) (cause : Cause) → IsBad (functions_of kinds) (take (ready_count old + 1) h) k cause → ⊥
      good_next k cause bad =
          let there = (beginnings (functions_of kinds) h (ready_count old + 1) k cause).0 bad in
          elim (cases_lt k (ready_count old)) [
            | inl before ↦ so_far.good k cause before there.1
            | inr from ↦
                let below : k < ready_count old + 1 = there.0 in
                let here : k ≡ ready_count old = omega arith in
                good_where (functions_of kinds) h (ready_count old) event status stands found none cause (subst (λ n. IsBad (functions_of kinds) h n cause) here there.1)
          ]

  -- one more event, that is bad: the table is as it was
  pub right_bad : (kinds : Item → Kind) (h : List Event) (old : Scan) (table : List ℕ) (event : Event) (status : ProcessStatus) (cause : Cause) → IsRight old kinds h → old.shape ≡ Good → IsEvent h (ready_count old) event
      → IsStatus (take (ready_count old) h) event.process status → IsFirstCause (functions_of kinds) status event cause → table ≡ old.table
      → IsRight (record { ready = ready_count old + 1; shape = Bad (ready_count old) cause; table = table }) kinds h
  right_bad kinds h old table event status cause right good stands found caused same = record {
    within = let inside = slice_get_within h (ready_count old) event stands in omega arith;
    shaped = (
      bad_shorter (functions_of kinds) h (ready_count old + 1) (ready_count old) cause (omega arith) (record { event = event; stands = stands; status = status; found = found; caused = caused }),
      λ k other below bad. so_far.good k other below (bad_longer (functions_of kinds) h (ready_count old + 1) k other bad),
    );
    counted = ap length same ∙ so_far.all;
    listed = same ∙ right.listed ∙ ap (λ l. processes_of (take (length l) h)) (sym same);
  }
    where
      so_far : Before kinds h old
      so_far = before_event kinds h old right good

  -- behind a bad event, any more or less can be taken in
  pub right_past : (kinds : Item → Kind) (h : List Event) (scan : Scan) (n at : ℕ) (cause : Cause) → IsRight scan kinds h → scan.shape ≡ Bad at cause → at < n → n ≤ length h → IsRight (record scan { ready = n }) kinds h
  right_past kinds h scan n at cause right bad behind within = record {
    within = within;
    shaped = subst (IsShape (functions_of kinds) (take n h)) (sym bad) (
      bad_shorter (functions_of kinds) h n at cause behind (bad_longer (functions_of kinds) h (ready_count scan) at cause was.0),
      λ k other before found. was.1 k other before (bad_shorter (functions_of kinds) h (ready_count scan) k other (omega (arith, inside)) (bad_longer (functions_of kinds) h n k other found)),
    );
    counted = right.counted ∙ ap (λ s. good_count s (ready_count scan)) bad ∙ ap (λ s. good_count s n) (sym bad);
    listed = right.listed;
  }
    where
      was : IsShape (functions_of kinds) (take (ready_count scan) h) (Bad at cause)
      was = subst (IsShape (functions_of kinds) (take (ready_count scan) h)) bad right.shaped

      inside : at < ready_count scan
      inside = bad_taken kinds h scan at cause right bad

  -- where the loop ends, the rest may be taken in
  pub settled_right : (kinds : Item → Kind) (h : List Event) (scan : Scan) → IsRight scan kinds h → IsOver h scan → IsRight (record scan { ready = length h }) kinds h
  settled_right kinds h scan right (inl all) = subst (λ n. IsRight (record scan { ready = n }) kinds h) (omega (arith, right.within)) right
  settled_right kinds h scan right (inr bad) = by scan.shape refl
    where
      by : (shape : Shape) → scan.shape ≡ shape → IsRight (record scan { ready = length h }) kinds h
      by Good good = absurd (bad good)
      by (Bad at cause) is = right_past kinds h scan (length h) at cause right is (omega (arith, right.within, bad_taken kinds h scan at cause right is)) (omega arith)

  -- events are taken back as far as the bad one, or further: none is bad then
  pub right_fewer : (kinds : Item → Kind) (h : List Event) (scan : Scan) (n : ℕ) (table : List ℕ) → IsRight scan kinds h → n ≤ length scan.table → table ≡ take n scan.table
      → IsRight (record { ready = n; shape = Good; table = table }) kinds h
  right_fewer kinds h scan n table right upto fewer = record {
    within = let most = table_within kinds h scan right in omega (arith, right.within);
    shaped = λ k cause bad.
        let there = (beginnings (functions_of kinds) h n k cause).0 bad in
        none_before scan.shape refl k cause there.0 there.1;
    counted = count;
    listed = fewer ∙ ap (take n) right.listed ∙ take-map (λ (e : Event). e.process) n (take (length scan.table) h) ∙ ap processes_of (take-take n (length scan.table) h upto) ∙ ap (λ m. processes_of (take m h)) (sym count);
  }
    where
      count : length table ≡ n
      count = ap length fewer ∙ length-take-le n scan.table upto

      none_before : (shape : Shape) → scan.shape ≡ shape → (k : ℕ) (cause : Cause) → k < n → IsBad (functions_of kinds) h k cause → ⊥
      none_before Good good k cause below bad =
          let was : IsShape (functions_of kinds) (take (ready_count scan) h) Good = subst (IsShape (functions_of kinds) (take (ready_count scan) h)) good right.shaped in
          let most = table_within kinds h scan right in
          was k cause (bad_shorter (functions_of kinds) h (ready_count scan) k cause (omega arith) bad)
      none_before (Bad at other) is k cause below bad =
          let was : IsShape (functions_of kinds) (take (ready_count scan) h) (Bad at other) = subst (IsShape (functions_of kinds) (take (ready_count scan) h)) is right.shaped in
          let most = table_within kinds h scan right in
          let all = right.counted ∙ ap (λ s. good_count s (ready_count scan)) is in
          was.1 k cause (omega arith) (bad_shorter (functions_of kinds) h (ready_count scan) k cause (omega arith) bad)

  -- or not as far: the bad one stays
  pub right_behind : (kinds : Item → Kind) (h : List Event) (scan : Scan) (n : ℕ) → IsRight scan kinds h → length scan.table < n → n ≤ ready_count scan → IsRight (record scan { ready = n }) kinds h
  right_behind kinds h scan n right behind upto = by scan.shape refl
    where
      by : (shape : Shape) → scan.shape ≡ shape → IsRight (record scan { ready = n }) kinds h
      by Good good = let all = right.counted ∙ ap (λ s. good_count s (ready_count scan)) good in absurd (omega arith)
      by (Bad at cause) bad =
          let all = right.counted ∙ ap (λ s. good_count s (ready_count scan)) bad in
          right_past kinds h scan n at cause right bad (omega arith) (omega (arith, right.within))

-- a scan that took in all events has their shape
pub right_shape : (kinds : Item → Kind) (h : List Event) (scan : Scan) → IsRight scan kinds h → ready_count scan ≡ length h → IsShape (functions_of kinds) h scan.shape
right_shape kinds h scan right all = subst (λ l. IsShape (functions_of kinds) l scan.shape) (take_all (ready_count scan) h (omega arith)) right.shaped

-- a scan is right for what agrees with the events that it took in
pub right_alike : SameFunctionsSameShape → (at : ℕ) (kinds other : Item → Kind) (h edited : List Event) (scan : Scan) → ready_count scan ≤ at → AgreeBefore at kinds other h edited → IsRight scan kinds h → IsRight scan other edited
right_alike same_shape at kinds other h edited scan upto agree right = record {
  within = omega (arith, length-take-le (ready_count scan) h right.within, ap length same, length-take (ready_count scan) edited);
  shaped = subst (λ l. IsShape (functions_of other) l scan.shape) same (same_shape (functions_of kinds) (functions_of other) (take (ready_count scan) h) scan.shape (λ k event stands. ap (λ kind. allows kind) (alike k event stands)) right.shaped);
  counted = right.counted;
  listed = right.listed ∙ ap processes_of (same_to (length scan.table) (let most = table_within kinds h scan right in omega arith));
}
  where
    same_to : (n : ℕ) → n ≤ at → take n h ≡ take n edited
    same_to n below = sym (take-take n at h below) ∙ ap (λ l. take n l) agree.events ∙ take-take n at edited below

    same : take (ready_count scan) h ≡ take (ready_count scan) edited
    same = same_to (ready_count scan) upto

    alike : (k : ℕ) (event : Event) → IsEvent (take (ready_count scan) h) k event → kinds event.key ≡ other event.key
    alike k event stands =
        let there = get_taken (ready_count scan) h k event stands in
        let below : k < ready_count scan = there.0 in
        agree.keys k event (omega arith) there.1

-- while a scan settles: it is right, has taken in no less than at first, and has counted each event that it looked at
pub record Settling (kinds : Item → Kind) (h : List Event) (first now : Scan) (before meter : Meter) : Type 0 where
  pub right : IsRight now kinds h
  pub grown : ready_count first ≤ ready_count now
  pub counted : meter ≡ record before { scans = ticked before.scans (looked_at now.shape (ready_count now) - ready_count first) }

pub ticked_most : (count more : ℕ) → ticked count more ≤ count + more
ticked_most count zero = omega arith
ticked_most count (suc more) = let rest = ticked_most count more in omega arith

-- no more is looked at than was taken in
looked_most : (kinds : Item → Kind) (h : List Event) (scan : Scan) → IsRight scan kinds h → looked_at scan.shape (ready_count scan) ≤ ready_count scan
looked_most kinds h scan right = by scan.shape refl
  where
    by : (shape : Shape) → scan.shape ≡ shape → looked_at scan.shape (ready_count scan) ≤ ready_count scan
    by Good good = let same = ap (λ s. looked_at s (ready_count scan)) good in omega arith
    by (Bad at cause) bad =
        let same = ap (λ s. looked_at s (ready_count scan)) bad in
        let inside = bad_taken kinds h scan at cause right bad in
        omega arith

pub settling_start : (kinds : Item → Kind) (h : List Event) (scan : Scan) (meter : Meter) → IsRight scan kinds h → Settling kinds h scan scan meter meter
settling_start kinds h scan meter right = record {
  right = right;
  grown = omega arith;
  counted = ap (λ n. record meter { scans = ticked meter.scans n }) none;
}
  where
    none : 0 ≡ looked_at scan.shape (ready_count scan) - ready_count scan
    none = let most = looked_most kinds h scan right in omega arith

pub settling_next : (kinds : Item → Kind) (h : List Event) (first now new : Scan) (before meter more : Meter) → Settling kinds h first now before meter → now.shape ≡ Good
    → IsRight new kinds h → ready_count new ≡ ready_count now + 1 → looked_at new.shape (ready_count new) ≡ ready_count now + 1
    → more ≡ record meter { scans = min (meter.scans + 1) (2 ^ 64 - 1) } → Settling kinds h first new before more
settling_next kinds h first now new before meter more settling good right count looked ticks = record {
  right = right;
  grown = let grown : ready_count first ≤ ready_count now = settling.grown in omega arith;
  counted = ticks ∙ ap (λ (m : Meter). record m { scans = min (m.scans + 1) (2 ^ 64 - 1) }) settling.counted ∙ ap (λ n. record before { scans = ticked before.scans n }) one_more;
}
  where
    one_more : suc (looked_at now.shape (ready_count now) - ready_count first) ≡ looked_at new.shape (ready_count new) - ready_count first
    one_more =
        let grown : ready_count first ≤ ready_count now = settling.grown in
        let was : looked_at now.shape (ready_count now) ≡ ready_count now = ap (λ s. looked_at s (ready_count now)) good in
        omega arith

-- and nothing more is looked at
pub settled_looked : (kinds : Item → Kind) (h : List Event) (scan : Scan) → IsRight scan kinds h → IsOver h scan → looked_at scan.shape (ready_count scan) ≡ looked_at scan.shape (length h)
settled_looked kinds h scan right (inl all) = ap (λ n. looked_at scan.shape n) (omega (arith, right.within))
settled_looked kinds h scan right (inr bad) = by scan.shape refl
  where
    by : (shape : Shape) → scan.shape ≡ shape → looked_at scan.shape (ready_count scan) ≡ looked_at scan.shape (length h)
    by Good good = absurd (bad good)
    by (Bad at cause) is = ap (λ s. looked_at s (ready_count scan)) is ∙ sym (ap (λ s. looked_at s (length h)) is)

-- so many ticks at most
pub settled_most : (kinds : Item → Kind) (h : List Event) (first now : Scan) (before meter : Meter) → Settling kinds h first now before meter → meter.scans ≤ before.scans + (ready_count now - ready_count first)
settled_most kinds h first now before meter settling =
    let most = looked_most kinds h now settling.right in
    let ticks = ticked_most before.scans (looked_at now.shape (ready_count now) - ready_count first) in
    let count : meter.scans ≡ ticked before.scans (looked_at now.shape (ready_count now) - ready_count first) = ap (λ (m : Meter). m.scans) settling.counted in
    omega arith
