-- Places rise, and count the bytes before them.
use Rattle.std.proofs.Common.{◌≡◌, ℕ, ◌+◌, ◌<◌, ◌≤◌, List, ◌∷◌, length, refl, arith}
use Rattle.lin_bytes.specs.Bytes.{Kind, Class}
use Rattle.lin_edn.specs.Grammar.{One, one, Inside, first, joined, character, next, Tag, first_of_tag, next_of_tag, Text, Escape, opened, opened_by_hash, plain, pair, escape, Comment, starts, goes, Opens, bracket, set_bracket, Discard, discards, Blank, white_byte, comment, discarded, Blanks, no_blank, one_more, Element, run, hash_alone, whole_text, tagged_element, collection, Row, empty, blank, element, Frame, Open, none_open, within, waits, awaits, outermost, place_of}
use Rattle.lin_edn.specs.Value.{Value}

-- the bytes t stand from place q on, where s stand from place p on
pub data Tail : ℕ → List ℕ → ℕ → List ℕ → Type 0 where
  all : {p : ℕ} {s : List ℕ} → Tail p s p s
  last : {p q b : ℕ} {s t : List ℕ} → Tail p s q (b ∷ t) → Tail p s (q + 1) t

pub then : {p q r : ℕ} {s t u : List ℕ} → Tail p s q t → Tail q t r u → Tail p s r u
then h all = h
then h (last k) = last (then h k)

pub tail_size : {p q : ℕ} {s t : List ℕ} → Tail p s q t → p + length s ≡ q + length t
tail_size all = refl
tail_size (last {p = p} {q = q} {b = b} {s = s} {t = t} h) = let e : p + length s ≡ q + length (b ∷ t) = tail_size h in omega arith

pub tail_rises : {p q : ℕ} {s t : List ℕ} → Tail p s q t → p ≤ q
tail_rises (all {p = p}) = omega arith
tail_rises (last {p = p} {q = q} h) = let e : p ≤ q = tail_rises h in omega arith

-- and there is a byte before them
abbrev pub Past : ℕ → List ℕ → ℕ → List ℕ → Type 0
Past p s q t = (p < q) × Tail p s q t

one_more_byte : {p q b : ℕ} {s t : List ℕ} → Past p s q (b ∷ t) → Past p s (q + 1) t
one_more_byte {p = p} {q = q} h = ((let a : p < q = h.0 in omega arith), last h.1)

past_then : {p q r : ℕ} {s t u : List ℕ} → Past p s q t → Tail q t r u → Past p s r u
past_then {p = p} {q = q} {r = r} h k = ((let a : p < q = h.0 in let b : q ≤ r = tail_rises k in omega arith), then h.1 k)

pub one_past : {p q : ℕ} {s t w : List ℕ} {k : Class} → One k p s w q t → Past p s q t
one_past (one {p = p} h) = (omega arith, last all)

pub inside_past : {p q : ℕ} {s t w : List ℕ} → Inside p s w q t → Past p s q t
inside_past (first i) = one_past i
inside_past (joined i h) = one_more_byte (one_past i)
inside_past (character i) = one_more_byte (one_past i)
inside_past (next i h) = one_more_byte (inside_past i)

pub tag_past : {p q : ℕ} {s t w : List ℕ} → Tag p s w q t → Past p s q t
tag_past (first_of_tag i h) = one_more_byte (one_past i)
tag_past (next_of_tag i h) = one_more_byte (tag_past i)

mutual
  pub text_past : {p q : ℕ} {s t w : List ℕ} → Text p s w q t → Past p s q t
  text_past (opened i) = one_past i
  text_past (opened_by_hash i h) = one_more_byte (one_past i)
  text_past (plain i h) = one_more_byte (text_past i)
  text_past (pair i) = one_more_byte (escape_past i)

  pub escape_past : {p q : ℕ} {s t w : List ℕ} → Escape p s w q t → Past p s q t
  escape_past (escape i h) = one_more_byte (text_past i)

pub comment_past : {p q : ℕ} {s t : List ℕ} → Comment p s q t → Past p s q t
comment_past (starts i) = one_past i
comment_past (goes i h) = one_more_byte (comment_past i)

pub opens_past : {p q : ℕ} {s t : List ℕ} {k : Kind} → Opens k p s q t → Past p s q t
opens_past (bracket i) = one_past i
opens_past (set_bracket i h) = one_more_byte (one_past i)

mutual
  discard_past : {n p q : ℕ} {s t : List ℕ} → Discard n p s q t → Past p s q t
  discard_past (discards h d bs e) = past_then (one_more_byte (one_past h)) (then (blanks_tail bs) (element_past e).1)

  pub blank_past : {n p q : ℕ} {s t : List ℕ} → Blank n p s q t → Past p s q t
  blank_past (white_byte i) = one_past i
  blank_past (comment i h) = one_more_byte (comment_past i)
  blank_past (discarded d) = discard_past d

  pub blanks_tail : {n p q : ℕ} {s t : List ℕ} → Blanks n p s q t → Tail p s q t
  blanks_tail no_blank = all
  blanks_tail (one_more bs b) = then (blanks_tail bs) (blank_past b).1

  pub element_past : {n p q : ℕ} {s t : List ℕ} {v : Value} → Element n p s v q t → Past p s q t
  element_past (run i h) = inside_past i
  element_past (hash_alone i h) = one_past i
  element_past (whole_text i h) = one_more_byte (text_past i)
  element_past (tagged_element tg h bs e) = past_then (tag_past tg) (then (blanks_tail bs) (element_past e).1)
  element_past (collection i row m) = past_then (opens_past i) (last (row_tail row))

  pub row_tail : {n p q : ℕ} {s t : List ℕ} {vs : List Value} → Row n p s vs q t → Tail p s q t
  row_tail empty = all
  row_tail (blank row b) = then (row_tail row) (blank_past b).1
  row_tail (element row e) = then (row_tail row) (element_past e).1

-- the outermost of what is open begins before what comes later
pub below : {n p : ℕ} {s t : List ℕ} {st : List Frame} → Open s n st p t → (r : ℕ) → p < r → outermost p st < r
below (none_open bs) r lt = lt
below (within {p = p} {q = q} {r = x} o i row) r lt =
    let a : p < q = (opens_past i).0 in let b : q ≤ x = tail_rises (row_tail row) in below o r (omega arith)
below (waits {p = p} {q = q} {r = x} o h d bs) r lt =
    let a : p < q = (one_past h).0 in let b : q + 1 ≤ x = tail_rises (blanks_tail bs) in below o r (omega arith)
below (awaits {p = p} {q = q} {r = x} o tg h bs) r lt =
    let a : p < q = (tag_past tg).0 in let b : q ≤ x = tail_rises (blanks_tail bs) in below o r (omega arith)

pub first_below : {n p : ℕ} {s t : List ℕ} {f : Frame} {st : List Frame} → Open s n (f ∷ st) p t → outermost (place_of f) st < p
first_below (within {p = p} {q = q} {r = x} o i row) =
    let a : p < q = (opens_past i).0 in let b : q ≤ x = tail_rises (row_tail row) in below o x (omega arith)
first_below (waits {p = p} {q = q} {r = x} o h d bs) =
    let a : p < q = (one_past h).0 in let b : q + 1 ≤ x = tail_rises (blanks_tail bs) in below o x (omega arith)
first_below (awaits {p = p} {q = q} {r = x} o tg h bs) =
    let a : p < q = (tag_past tg).0 in let b : q ≤ x = tail_rises (blanks_tail bs) in below o x (omega arith)
