-- Which bytes spell which value.
--
-- A row as `Element n p s v q t` reads: with n more levels, the bytes s, which stand from place p on,
-- begin with the spelling of v, which ends before place q, from where on the bytes t stand.
use Rattle.std.specs.Prelude.{◌≡◌, ℕ, suc, ◌+◌, ◌<◌, ◌≤◌, Bool, true, false, List, [], ◌∷◌, ◌++◌, length, drop, take, Some, None, ◌==◌}
use Rattle.lin_bytes.specs.Bytes.{Kind, a_set, Class, class, white, semicolon, opener, closer, quote, backslash, hash, inside, is_stop, is_newline, closing, Behind, behind, opens_set, opens_text, discards as discards_next, joins, stands_apart, names_tag, quoted, ends, escapes, stays}
use Rattle.lin_edn.specs.Run.{run_value}
use Rattle.lin_edn.specs.Value.{Value, atom, text, tagged, made}
use Rattle.lin_edn.specs.declared.EdnCause.{EdnCause}
use Rattle.lin_edn.specs.declared.EdnCause.TheVariants.{Unbalanced, OddMap, TooDeep}

-- one byte of a class
pub data One : Class → ℕ → List ℕ → List ℕ → ℕ → List ℕ → Type 0 where
  one : {p b : ℕ} {s : List ℕ} {k : Class} → class b ≡ k → One k p (b ∷ s) (b ∷ []) (p + 1) s

-- bytes of a run, or of an atom that begins with `##`, `#'` or a backslash
pub data Inside : ℕ → List ℕ → List ℕ → ℕ → List ℕ → Type 0 where
  first : {p q : ℕ} {s t w : List ℕ} → One inside p s w q t → Inside p s w q t
  joined : {p q b : ℕ} {s t w : List ℕ} → One hash p s w q (b ∷ t) → behind b ≡ joins → Inside p s (w ++ b ∷ []) (q + 1) t
  character : {p q b : ℕ} {s t w : List ℕ} → One backslash p s w q (b ∷ t) → Inside p s (w ++ b ∷ []) (q + 1) t
  next : {p q b : ℕ} {s t w : List ℕ} → Inside p s w q (b ∷ t) → is_stop b ≡ false → Inside p s (w ++ b ∷ []) (q + 1) t

-- a `#` and bytes of a tag, which are told without the `#`
pub data Tag : ℕ → List ℕ → List ℕ → ℕ → List ℕ → Type 0 where
  first_of_tag : {p q b : ℕ} {s t w : List ℕ} → One hash p s w q (b ∷ t) → behind b ≡ names_tag → Tag p s (b ∷ []) (q + 1) t
  next_of_tag : {p q b : ℕ} {s t w : List ℕ} → Tag p s w q (b ∷ t) → is_stop b ≡ false → Tag p s (w ++ b ∷ []) (q + 1) t

-- from one place to another stands a tag, which a stop byte ends
abbrev pub IsTagAt : List ℕ → ℕ → ℕ → Type 0
IsTagAt s from until = (w : List ℕ) × (c : ℕ) × (t : List ℕ) × Tag from (drop from s) w until (c ∷ t) × (is_stop c ≡ true) × (drop until s ≡ c ∷ t)

mutual
  -- the beginning of a text
  pub data Text : ℕ → List ℕ → List ℕ → ℕ → List ℕ → Type 0 where
    opened : {p q : ℕ} {s t w : List ℕ} → One quote p s w q t → Text p s w q t
    opened_by_hash : {p q b : ℕ} {s t w : List ℕ} → One hash p s w q (b ∷ t) → behind b ≡ opens_text → Text p s (w ++ b ∷ []) (q + 1) t
    plain : {p q b : ℕ} {s t w : List ℕ} → Text p s w q (b ∷ t) → quoted b ≡ stays → Text p s (w ++ b ∷ []) (q + 1) t
    pair : {p q b : ℕ} {s t w : List ℕ} → Escape p s w q (b ∷ t) → Text p s (w ++ b ∷ []) (q + 1) t

  -- the beginning of a text up to a backslash, which makes a pair with the next byte
  pub data Escape : ℕ → List ℕ → List ℕ → ℕ → List ℕ → Type 0 where
    escape : {p q b : ℕ} {s t w : List ℕ} → Text p s w q (b ∷ t) → quoted b ≡ escapes → Escape p s (w ++ b ∷ []) (q + 1) t

-- the beginning of a comment
pub data Comment : ℕ → List ℕ → ℕ → List ℕ → Type 0 where
  starts : {p q : ℕ} {s t w : List ℕ} → One semicolon p s w q t → Comment p s q t
  goes : {p q b : ℕ} {s t : List ℕ} → Comment p s q (b ∷ t) → is_newline b ≡ false → Comment p s (q + 1) t

-- what opens a collection
pub data Opens : Kind → ℕ → List ℕ → ℕ → List ℕ → Type 0 where
  bracket : {p q : ℕ} {s t w : List ℕ} {k : Kind} → One (opener k) p s w q t → Opens k p s q t
  set_bracket : {p q b : ℕ} {s t w : List ℕ} → One hash p s w q (b ∷ t) → behind b ≡ opens_set → Opens a_set p s (q + 1) t

mutual
  -- a discard, with the element that it holds
  pub data Discard : ℕ → ℕ → List ℕ → ℕ → List ℕ → Type 0 where
    discards : {n p q r o b : ℕ} {s t u x w : List ℕ} {v : Value} → One hash p s w q (b ∷ t) → behind b ≡ discards_next →
        Blanks n (q + 1) t r u → Element n r u v o x → Discard (suc n) p s o x

  -- one blank
  pub data Blank : ℕ → ℕ → List ℕ → ℕ → List ℕ → Type 0 where
    white_byte : {n p q : ℕ} {s t w : List ℕ} → One white p s w q t → Blank n p s q t
    comment : {n p q c : ℕ} {s t : List ℕ} → Comment p s q (c ∷ t) → is_newline c ≡ true → Blank n p s (q + 1) t
    discarded : {n p q : ℕ} {s t : List ℕ} → Discard n p s q t → Blank n p s q t

  -- any blanks
  pub data Blanks : ℕ → ℕ → List ℕ → ℕ → List ℕ → Type 0 where
    no_blank : {n p : ℕ} {s : List ℕ} → Blanks n p s p s
    one_more : {n p q r : ℕ} {s t u : List ℕ} → Blanks n p s q t → Blank n q t r u → Blanks n p s r u

  -- one element; a run is followed by a stop byte
  pub data Element : ℕ → ℕ → List ℕ → Value → ℕ → List ℕ → Type 0 where
    run : {n p q c : ℕ} {s t w : List ℕ} → Inside p s w q (c ∷ t) → is_stop c ≡ true → Element n p s (run_value p w) q (c ∷ t)
    hash_alone : {n p q c : ℕ} {s t w : List ℕ} → One hash p s w q (c ∷ t) → behind c ≡ stands_apart → Element n p s (atom p w) q (c ∷ t)
    whole_text : {n p q c : ℕ} {s t w : List ℕ} → Text p s w q (c ∷ t) → quoted c ≡ ends → Element n p s (text p (w ++ c ∷ [])) (q + 1) t
    tagged_element : {n p q r o c : ℕ} {s t u x w : List ℕ} {v : Value} → Tag p s w q (c ∷ t) → is_stop c ≡ true →
        Blanks n q (c ∷ t) r u → Element n r u v o x → Element (suc n) p s (tagged (p + 1) w v) o x
    collection : {n p q r : ℕ} {s t u : List ℕ} {vs : List Value} {v : Value} {k : Kind} →
        Opens k p s q t → Row n q t vs r (closing k ∷ u) → made k vs ≡ Some v → Element (suc n) p s v (r + 1) u

  -- any blanks and elements
  pub data Row : ℕ → ℕ → List ℕ → List Value → ℕ → List ℕ → Type 0 where
    empty : {n p : ℕ} {s : List ℕ} → Row n p s [] p s
    blank : {n p q r : ℕ} {s t u : List ℕ} {vs : List Value} → Row n p s vs q t → Blank n q t r u → Row n p s vs r u
    element : {n p q r : ℕ} {s t u : List ℕ} {vs : List Value} {v : Value} →
        Row n p s vs q t → Element n q t v r u → Row n p s (vs ++ v ∷ []) r u

-- the greatest length of a top-level element, comment or discard
unfoldable pub longest : ℕ
longest = 16777216

-- blanks at the front of a text, none of them too long
pub data ShortBlanks : List ℕ → ℕ → List ℕ → Type 0 where
  no_blank_yet : {s : List ℕ} → ShortBlanks s 0 s
  one_more_short : {q r : ℕ} {s t u : List ℕ} → ShortBlanks s q t → Blank 64 q t r u → r ≤ q + longest → ShortBlanks s r u

-- short blanks and a whole element that is short, from one place to another, stand in front
pub data Spells : List ℕ → Value → ℕ → ℕ → Type 0 where
  spells : {p q : ℕ} {s t u : List ℕ} {v : Value} → ShortBlanks s p t → Element 64 p t v q u → q ≤ p + longest → Spells s v p q

-- short blanks up to a place, and then nothing or a short comment without its end
pub data IsBlankText : List ℕ → ℕ → Type 0 where
  nothing_more : {q : ℕ} {s : List ℕ} → ShortBlanks s q [] → IsBlankText s q
  open_comment : {q r : ℕ} {s t : List ℕ} → ShortBlanks s q t → Comment q t r [] → r ≤ q + longest → IsBlankText s q

-- behind short blanks a whole element or discard of any length, from one place to another
pub data Whole : List ℕ → ℕ → ℕ → Type 0 where
  an_element : {p q : ℕ} {s t u : List ℕ} {v : Value} → ShortBlanks s p t → Element 64 p t v q u → Whole s p q
  a_discard : {p q : ℕ} {s t u : List ℕ} → ShortBlanks s p t → Discard 64 p t q u → Whole s p q

-- behind short blanks a whole element, discard or comment of any length, from one place to another
pub data Thing : List ℕ → ℕ → ℕ → Type 0 where
  element_or_discard : {p q : ℕ} {s : List ℕ} → Whole s p q → Thing s p q
  a_comment : {p q c : ℕ} {s t u : List ℕ} → ShortBlanks s p t → Comment p t q (c ∷ u) → is_newline c ≡ true → Thing s p (q + 1)

-- Behind short blanks the text is the beginning of a whole element or discard, which ends no earlier than the text;
-- it isn't whole there, and not too long.
abbrev pub IsUnfinished : List ℕ → ℕ → Type 0
IsUnfinished s p = (p < length s) × (length s ≤ p + longest) × ((q : ℕ) → q ≤ p + longest → Whole s p q → ⊥)
    × (t : List ℕ) × ShortBlanks s p t × (x : List ℕ) × (q : ℕ) × (length s ≤ q) × Whole (s ++ x) p q

-- Behind short blanks stand more bytes than the longest has. No element, discard or comment there is whole and not longer;
-- and as many bytes as the longest has are the beginning of a whole one, which ends no earlier.
abbrev pub IsTooLong : List ℕ → ℕ → Type 0
IsTooLong s p = (p + longest < length s) × ((q : ℕ) → q ≤ p + longest → Thing s p q → ⊥)
    × (t : List ℕ) × ShortBlanks s p t × (x : List ℕ) × (q : ℕ) × (p + longest ≤ q) × Thing (take (p + longest) s ++ x) p q

-- blanks and a whole element of any length stand in front
pub data Reads : List ℕ → Type 0 where
  reads : {p q : ℕ} {s t u : List ℕ} {v : Value} → Blanks 64 0 s p t → Element 64 p t v q u → Reads s

-- some text that begins with these bytes is blanks and an element, length set aside
abbrev pub IsViable : List ℕ → Type 0
IsViable s = (x : List ℕ) × Reads (s ++ x)

-- the bytes before a place are a viable front, and with the byte at that place they are none
abbrev pub IsLeast : List ℕ → ℕ → Type 0
IsLeast s at = (front : List ℕ) × (c : ℕ) × (t : List ℕ) ×
    (s ≡ front ++ c ∷ t) × (length front ≡ at) × IsViable front × (IsViable (front ++ c ∷ []) → ⊥)

-- the byte at a place is among the first bytes of a top-level element, comment or discard, as many as the longest has
abbrev pub IsInReach : List ℕ → ℕ → Type 0
IsInReach s at = (p : ℕ) × (t : List ℕ) × ShortBlanks s p t × (p ≤ at) × (at < p + longest)

-- an open bracket: its kind, its place and what stands in it so far; a discard or a tag that waits for its element,
-- the tag with the place of its name
pub data Frame : Type 0 where
  frame : Kind → ℕ → List Value → Frame
  discarding : ℕ → Frame
  tagging : ℕ → ℕ → List ℕ → Frame

-- the bytes up to a place leave these open, the innermost first, and so many more levels
pub data Open : List ℕ → ℕ → List Frame → ℕ → List ℕ → Type 0 where
  none_open : {q : ℕ} {s t : List ℕ} → ShortBlanks s q t → Open s 64 [] q t
  within : {n p q r : ℕ} {s t u x : List ℕ} {st : List Frame} {vs : List Value} {k : Kind} →
      Open s (suc n) st p t → Opens k p t q u → Row n q u vs r x → Open s n (frame k p vs ∷ st) r x
  waits : {n p q r b : ℕ} {s t u x w : List ℕ} {st : List Frame} →
      Open s (suc n) st p t → One hash p t w q (b ∷ u) → behind b ≡ discards_next → Blanks n (q + 1) u r x → Open s n (discarding p ∷ st) r x
  awaits : {n p q r c : ℕ} {s t u x w : List ℕ} {st : List Frame} →
      Open s (suc n) st p t → Tag p t w q (c ∷ u) → is_stop c ≡ true → Blanks n q (c ∷ u) r x → Open s n (tagging p (p + 1) w ∷ st) r x

-- where an open level begins
abbrev pub place_of : Frame → ℕ
place_of (frame k o vs) = o
place_of (discarding o) = o
place_of (tagging o i w) = o

-- where the outermost of what is open begins, the innermost of which is no level and begins at a place
abbrev pub outermost : ℕ → List Frame → ℕ
outermost p [] = p
outermost p (f ∷ st) = outermost (place_of f) st

-- a byte closes the innermost open bracket
abbrev pub fits : List Frame → ℕ → Bool
fits [] c = false
fits (frame k p vs ∷ st) c = closing k == c
fits (discarding p ∷ st) c = false
fits (tagging p i w ∷ st) c = false

-- a byte behind a `#` makes it the first byte of a level
abbrev pub deepens : Behind → Bool
deepens opens_set = true
deepens opens_text = false
deepens discards_next = true
deepens joins = false
deepens stands_apart = false
deepens names_tag = true

-- what is wrong with the byte at a place, after what stands before it, and which place tells it
pub data Faulty : List ℕ → ℕ → ℕ → EdnCause → Type 0 where
  unbalanced : {n p c : ℕ} {s t : List ℕ} {st : List Frame} → Open s n st p (c ∷ t) → class c ≡ closer → fits st c ≡ false →
      Faulty s p p Unbalanced
  odd_map : {n p o : ℕ} {s t : List ℕ} {st : List Frame} {vs : List Value} {k : Kind} →
      Open s n (frame k o vs ∷ st) p (closing k ∷ t) → made k vs ≡ None → Faulty s p p OddMap
  too_deep : {p c : ℕ} {s t : List ℕ} {st : List Frame} {k : Kind} → Open s 0 st p (c ∷ t) → class c ≡ opener k → Faulty s p p TooDeep
  hash_too_deep : {p q b : ℕ} {s t u w : List ℕ} {st : List Frame} → Open s 0 st p t → One hash p t w q (b ∷ u) → deepens (behind b) ≡ true →
      Faulty s q p TooDeep
