-- What the scans of rows of bytes find, in words of the grammar.
use Rattle.std.proofs.Common.{◌≡◌, ℕ, ◌+◌, ◌<◌, ◌≤◌, true, false, List, [], ◌∷◌, length, drop, get_or, refl, sym, subst, arith, ◌∙◌}
use Rattle.std.specs.List.{slice_range}
use Rattle.lin_bytes.specs.Bytes.{Class, class, white, inside, quote, hash, is_white, is_stop, quoted, ends, behind, names_tag}
use Rattle.lin_edn.specs.Grammar.{One, one, Inside, first, next, Tag, first_of_tag, next_of_tag, IsTagAt, Blanks, no_blank, one_more, Text, opened, plain, Blank, white_byte, Element, run as a_run, whole_text, Row, blank, ShortBlanks, one_more_short, longest}
use Rattle.lin_edn.specs.Run.{run_value}
use Rattle.lin_edn.specs.Scans.{IsStopAt, is_dark, is_quoting}
use Rattle.lin_bytes.specs.Bytes.{is_inside}
use Rattle.lin_edn.specs.Value.{Value, text as text_value}
use Rattle.lin_edn.proofs.Ahead.{along_to, at_byte, lit, white_class, inside_of, stays_of}
use Rattle.lin_edn.specs.inner.Machine.{complete}
use Rattle.lin_edn.proofs.Forth.{element_run}
use Rattle.lin_edn.proofs.Fronts.{positive}
use Rattle.lin_edn.proofs.Runs.{range_more, range_one}

-- one byte of a text
pub one_at : (s : List ℕ) (i : ℕ) (k : Class) → i < length s → class (get_or s i 0) ≡ k → One k i (drop i s) (get_or s i 0 ∷ []) (i + 1) (drop (i + 1) s)
one_at s i k lt h = subst (λ l. One k i l (get_or s i 0 ∷ []) (i + 1) (drop (i + 1) s)) (sym (at_byte s i lt)) (one h)

blank_at : (n i : ℕ) (s : List ℕ) → i < length s → is_dark (get_or s i 0) ≡ false → Blank n i (drop i s) (i + 1) (drop (i + 1) s)
blank_at n i s lt h = white_byte (one_at s i white lt (white_class (get_or s i 0) (lit (is_white (get_or s i 0)) h)))

-- white bytes as short blanks
pub white_short : (s : List ℕ) (at until end : ℕ) → IsStopAt is_dark s at end until → end ≤ length s → ShortBlanks s at (drop at s) → ShortBlanks s until (drop until s)
white_short s at until end h within =
    let before : until ≤ end = h.1 in
    along_to (λ i. ShortBlanks s i (drop i s)) at until h.0 (λ i a b bs.
    one_more_short bs (blank_at 64 i s (omega arith) (h.2 i a b)) (let z : 0 < longest = positive in omega arith))

-- blanks behind blanks and elements
pub with_blanks : {n p q r : ℕ} {s t u : List ℕ} {vs : List Value} → Row n p s vs q t → Blanks n q t r u → Row n p s vs r u
with_blanks row no_blank = row
with_blanks row (one_more bs b) = blank (with_blanks row bs) b

-- white bytes as blanks
pub white_blanks : (s : List ℕ) (from at until end : ℕ) → IsStopAt is_dark s at end until → end ≤ length s → (n : ℕ) → Blanks n from (drop from s) at (drop at s) →
    Blanks n from (drop from s) until (drop until s)
white_blanks s from at until end h within n bs =
    let before : until ≤ end = h.1 in
    along_to (λ i. Blanks n from (drop from s) i (drop i s)) at until h.0 (λ i a b so_far. one_more so_far (blank_at n i s (omega arith) (h.2 i a b))) bs

-- a run that a stop byte ends
pub run_stands : (s : List ℕ) (from until end : ℕ) → from < length s → is_inside (class (get_or s from 0)) ≡ true → IsStopAt is_stop s (from + 1) end until →
    end ≤ length s → until < end → (n : ℕ) → Element n from (drop from s) (run_value from (slice_range s from until)) until (drop until s)
run_stands s from until end lt begins h within before n =
    let byte = get_or s from 0 in
    let start : Inside from (drop from s) (slice_range s from (from + 1)) (from + 1) (drop (from + 1) s) =
    subst (λ w. Inside from (drop from s) w (from + 1) (drop (from + 1) s)) (sym (range_one s from lt)) (first (one_at s from inside lt (inside_of (class byte) begins))) in
    let whole : Inside from (drop from s) (slice_range s from until) until (drop until s) =
    along_to (λ i. Inside from (drop from s) (slice_range s from i) i (drop i s)) (from + 1) until h.0 (λ i a b so_far.
    subst (λ w. Inside from (drop from s) w (i + 1) (drop (i + 1) s)) (sym (range_more s from i (omega arith) (omega arith)))
    (next (subst (λ l. Inside from (drop from s) (slice_range s from i) i l) (at_byte s i (omega arith)) so_far) (h.2 i a b))) start in
    subst (λ l. Element n from (drop from s) (run_value from (slice_range s from until)) until l) (sym (at_byte s until (omega arith)))
    (a_run (subst (λ l. Inside from (drop from s) (slice_range s from until) until l) (at_byte s until (omega arith)) whole) (h.3 before))

quotes : (c : ℕ) → c ≡ 34 → class c ≡ quote
quotes c h = rw h refl

ends_of : (c : ℕ) → c ≡ 34 → quoted c ≡ ends
ends_of c h = rw h refl

-- a text without backslash
pub text_stands : (s : List ℕ) (from until end : ℕ) → from < length s → get_or s from 0 ≡ 34 → IsStopAt is_quoting s (from + 1) end until →
    end ≤ length s → until < end → get_or s until 0 ≡ 34 → (n : ℕ) →
    Element n from (drop from s) (text_value from (slice_range s from (until + 1))) (until + 1) (drop (until + 1) s)
text_stands s from until end lt begins h within before stops n =
    let start : Text from (drop from s) (slice_range s from (from + 1)) (from + 1) (drop (from + 1) s) =
    subst (λ w. Text from (drop from s) w (from + 1) (drop (from + 1) s)) (sym (range_one s from lt)) (opened (one_at s from quote lt (quotes (get_or s from 0) begins))) in
    let whole : Text from (drop from s) (slice_range s from until) until (drop until s) =
    along_to (λ i. Text from (drop from s) (slice_range s from i) i (drop i s)) (from + 1) until h.0 (λ i a b so_far.
    subst (λ w. Text from (drop from s) w (i + 1) (drop (i + 1) s)) (sym (range_more s from i (omega arith) (omega arith)))
    (plain (subst (λ l. Text from (drop from s) (slice_range s from i) i l) (at_byte s i (omega arith)) so_far) (stays_of (get_or s i 0) (h.2 i a b)))) start in
    let later : from + 1 ≤ until = h.0 in
    subst (λ w. Element n from (drop from s) (text_value from w) (until + 1) (drop (until + 1) s)) (sym (range_more s from until (omega arith) (omega arith)))
    (whole_text (subst (λ l. Text from (drop from s) (slice_range s from until) until l) (at_byte s until (omega arith)) whole) (ends_of (get_or s until 0) stops))

pub hashes : (c : ℕ) → c ≡ 35 → class c ≡ hash
hashes c h = rw h refl

-- a tag
pub tag_stands : (s : List ℕ) (from until end : ℕ) → from + 1 < length s → get_or s from 0 ≡ 35 → behind (get_or s (from + 1) 0) ≡ names_tag →
    IsStopAt is_stop s (from + 2) end until → end ≤ length s → until < end → IsTagAt s from until
tag_stands s from until end lt begins names h within before =
    let place : from + 1 + 1 ≡ from + 2 = omega arith in
    let opened_tag : One hash from (drop from s) (get_or s from 0 ∷ []) (from + 1) (get_or s (from + 1) 0 ∷ drop (from + 1 + 1) s) =
    subst (λ l. One hash from (drop from s) (get_or s from 0 ∷ []) (from + 1) l) (at_byte s (from + 1) lt) (one_at s from hash (omega arith) (hashes (get_or s from 0) begins)) in
    let start : Tag from (drop from s) (slice_range s (from + 1) (from + 1 + 1)) (from + 1 + 1) (drop (from + 1 + 1) s) =
    subst (λ w. Tag from (drop from s) w (from + 1 + 1) (drop (from + 1 + 1) s)) (sym (range_one s (from + 1) lt)) (first_of_tag opened_tag names) in
    let whole : Tag from (drop from s) (slice_range s (from + 1) until) until (drop until s) =
    along_to (λ i. Tag from (drop from s) (slice_range s (from + 1) i) i (drop i s)) (from + 2) until h.0 (λ i a b so_far.
    subst (λ w. Tag from (drop from s) w (i + 1) (drop (i + 1) s)) (sym (range_more s (from + 1) i (omega arith) (omega arith)))
    (next_of_tag (subst (λ l. Tag from (drop from s) (slice_range s (from + 1) i) i l) (at_byte s i (omega arith)) so_far) (h.2 i a b)))
    (subst (λ i. Tag from (drop from s) (slice_range s (from + 1) i) i (drop i s)) place start) in
    let rest = at_byte s until (omega arith) in (
      slice_range s (from + 1) until,
      get_or s until 0,
      drop (until + 1) s,
      subst (λ l. Tag from (drop from s) (slice_range s (from + 1) until) until l) rest whole,
      h.3 before,
      rest,
    )

-- two elements at a place are one
pub one_element : {n m p q r : ℕ} {s t u : List ℕ} {v w : Value} → n ≤ 64 → m ≤ 64 → Element n p s v q t → Element m p s w r u → (v ≡ w) × (q ≡ r)
one_element {n = n} {m = m} {p = p} {q = q} {r = r} {v = v} {w = w} a b e f =
    let same : complete v p q ≡ complete w p r = sym (element_run (q + r) e [] (omega arith) (omega arith)) ∙ element_run (q + r) f [] (omega arith) (omega arith) in
    (cc, cc)
