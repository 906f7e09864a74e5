-- What stands in front of a value, where the bytes are those of a segment; and runs of digits.
use Rattle.std.proofs.Common.{◌≡◌, ℕ, ◌+◌, ◌-◌, ◌<◌, ◌≤◌, Bool, true, false, List, [], ◌∷◌, ◌++◌, length, drop, take, get_or, refl, sym, ap, ap₂, subst, ◌∙◌, arith}
use Rattle.std.specs.List.{slice_range}
use Rattle.lin_bytes.specs.Bytes.{class, is_inside, is_stop, stops}
use Rattle.lin_edn.specs.Grammar.{element, Element, no_blank}
use Rattle.lin_edn.specs.Run.{run_value}
use Rattle.lin_edn.specs.Scans.{IsStopAt, is_dark}
use Rattle.lin_edn.specs.Segments.{IsSegment, IsFront}
use Rattle.lin_edn.specs.inner.Lanes.{AreInside}
use Rattle.lin_edn.proofs.Ahead.{along_to, inside_of}
use Rattle.lin_edn.proofs.Runs.{range_more}
use Rattle.lin_edn.proofs.Standing.{run_stands, white_blanks, with_blanks}

-- so many bytes of a text from a place on are those of another
abbrev pub AreSame : List ℕ → ℕ → List ℕ → ℕ → Type 0
AreSame s from w count = (k : ℕ) → k < count → get_or s (from + k) 0 ≡ get_or w k 0

-- what stops in one stops in the other
stops_too : (test : ℕ → Bool) (s w : List ℕ) (from count end at until p : ℕ) → AreSame s from w count → count ≤ end → until ≤ count → p ≡ from + at →
    IsStopAt test w at end until → IsStopAt test s p (from + count) (from + until)
stops_too test s w from count end at until p same few le there h =
    let first : at ≤ until = h.0 in (
      omega arith,
      omega arith,
      λ i a b.
          let back : from + (i - from) ≡ i = omega arith in
          sym (ap (λ k. test (get_or s k 0)) back) ∙ ap test (same (i - from) (omega arith)) ∙ h.2 (i - from) (omega arith) (omega arith),
      λ lt. ap test (same until (omega arith)) ∙ h.3 (omega arith),
    )

-- their parts are the same
range_same : (s w : List ℕ) (from count at until : ℕ) → from + count ≤ length s → count ≤ length w → AreSame s from w count → at ≤ until → until ≤ count →
    slice_range s (from + at) (from + until) ≡ slice_range w at until
range_same s w from count at until room fits same le few =
    let none : (from + at) - (from + at) ≡ at - at = omega arith in
    let zero : at - at ≡ 0 = omega arith in
    along_to (λ i. slice_range s (from + at) (from + i) ≡ slice_range w at i) at until le (λ i a b so_far.
    let on : from + (i + 1) ≡ from + i + 1 = omega arith in
    ap (slice_range s (from + at)) on ∙ range_more s (from + at) (from + i) (omega arith) (omega arith) ∙ ap₂ (λ r x. r ++ x ∷ []) so_far (same i (omega arith))
    ∙ sym (range_more w at i a (omega arith))) (ap (λ k. take k (drop (from + at) s)) (none ∙ zero) ∙ sym (ap (λ k. take k (drop at w)) zero))

pub front_stands : (s w : List ℕ) (from begun until end : ℕ) → from + 16 ≤ length s → length w ≡ 16 → IsSegment w begun until end → AreSame s from w end →
    IsFront s from (slice_range w begun until) (from + end)
front_stands s w from begun until end room long is same =
    let a : begun + 1 ≤ until = is.run.0 in
    let b : until < end = is.apart in
    let few : end ≤ 16 = is.behind.1 in
    let there : from + begun + 1 ≡ from + (begun + 1) = omega arith in
    let white = stops_too is_dark s w from end 16 0 begun from same few (omega arith) (omega arith) is.white in
    let run = stops_too is_stop s w from end 16 (begun + 1) until (from + begun + 1) same few (omega arith) there is.run in
    let behind = stops_too is_dark s w from end 16 until end (from + until) same few (omega arith) refl is.behind in
    let word = range_same s w from end begun until (omega arith) (omega arith) same (omega arith) (omega arith) in
    let begins = ap (λ c. is_inside (class c)) (same begun (omega arith)) ∙ is.begins in (
      from + begun,
      λ n o t vs row.
          let key : Element n (from + begun) (drop (from + begun) s) (run_value (from + begun) (slice_range w begun until)) (from + until) (drop (from + until) s) =
          subst (λ x. Element n (from + begun) (drop (from + begun) s) (run_value (from + begun) x) (from + until) (drop (from + until) s)) word
          (run_stands s (from + begun) (from + until) (from + end) (omega arith) begins run (omega arith) (omega arith) n) in
          with_blanks (element (with_blanks row (white_blanks s from from (from + begun) (from + end) white (omega arith) n no_blank)) key)
          (white_blanks s (from + until) (from + until) (from + end) (from + end) behind (omega arith) n no_blank),
    )

inside_goes : (c : ℕ) → is_inside (class c) ≡ true → is_stop c ≡ false
inside_goes c h = ap stops (inside_of (class c) h)

-- bytes that may begin runs, with one behind them that stops a run
pub inside_run : (s : List ℕ) (from until end : ℕ) → from < until → until < end → end ≤ length s → AreInside s from until → is_stop (get_or s until 0) ≡ true →
    (n : ℕ) → Element n from (drop from s) (run_value from (slice_range s from until)) until (drop until s)
inside_run s from until end some before within are stop n =
    run_stands s from until end (omega arith) (are from (omega arith) some)
    (omega arith, omega arith, λ i a b. inside_goes (get_or s i 0) (are i (omega arith) b), λ lt. stop) within before n
