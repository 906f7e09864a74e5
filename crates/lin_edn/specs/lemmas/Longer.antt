-- More bytes behind what is spelled leave it so.
use Rattle.std.proofs.Common.{ℕ, List, ◌∷◌, ◌++◌, ap, ◌∙◌, append_assoc}
use Rattle.lin_bytes.specs.Bytes.{Kind, Class}
use Rattle.lin_edn.specs.Grammar.{One, one, Inside, first, joined, character, next, Tag, first_of_tag, next_of_tag, Text, Escape, opened, opened_by_hash, plain, pair, escape, Comment, starts, goes, Opens, bracket, set_bracket, Discard, discards, Blank, white_byte, comment, discarded, Blanks, no_blank, one_more, Element, run, hash_alone, whole_text, tagged_element, collection, Row, empty, blank, element, ShortBlanks, no_blank_yet, one_more_short, Spells, spells, Frame, Open, none_open, within, waits, awaits, Faulty, unbalanced, odd_map, too_deep, hash_too_deep, IsLeast, IsInReach}
use Rattle.lin_edn.specs.Reading.{IsWrong}
use Rattle.lin_edn.specs.Value.{Value}
use Rattle.lin_edn.specs.declared.EdnCause.{EdnCause}

pub one_longer : {p q : ℕ} {s t w : List ℕ} {k : Class} → One k p s w q t → (x : List ℕ) → One k p (s ++ x) w q (t ++ x)
one_longer (one h) x = one h

pub inside_longer : {p q : ℕ} {s t w : List ℕ} → Inside p s w q t → (x : List ℕ) → Inside p (s ++ x) w q (t ++ x)
inside_longer (first i) x = first (one_longer i x)
inside_longer (joined i h) x = joined (one_longer i x) h
inside_longer (character i) x = character (one_longer i x)
inside_longer (next i h) x = next (inside_longer i x) h

pub tag_longer : {p q : ℕ} {s t w : List ℕ} → Tag p s w q t → (x : List ℕ) → Tag p (s ++ x) w q (t ++ x)
tag_longer (first_of_tag i h) x = first_of_tag (one_longer i x) h
tag_longer (next_of_tag i h) x = next_of_tag (tag_longer i x) h

mutual
  pub text_longer : {p q : ℕ} {s t w : List ℕ} → Text p s w q t → (x : List ℕ) → Text p (s ++ x) w q (t ++ x)
  text_longer (opened i) x = opened (one_longer i x)
  text_longer (opened_by_hash i h) x = opened_by_hash (one_longer i x) h
  text_longer (plain i h) x = plain (text_longer i x) h
  text_longer (pair i) x = pair (escape_longer i x)

  pub escape_longer : {p q : ℕ} {s t w : List ℕ} → Escape p s w q t → (x : List ℕ) → Escape p (s ++ x) w q (t ++ x)
  escape_longer (escape i h) x = escape (text_longer i x) h

pub comment_longer : {p q : ℕ} {s t : List ℕ} → Comment p s q t → (x : List ℕ) → Comment p (s ++ x) q (t ++ x)
comment_longer (starts i) x = starts (one_longer i x)
comment_longer (goes i h) x = goes (comment_longer i x) h

opens_longer : {p q : ℕ} {s t : List ℕ} {k : Kind} → Opens k p s q t → (x : List ℕ) → Opens k p (s ++ x) q (t ++ x)
opens_longer (bracket i) x = bracket (one_longer i x)
opens_longer (set_bracket i h) x = set_bracket (one_longer i x) h

mutual
  discard_longer : {n p q : ℕ} {s t : List ℕ} → Discard n p s q t → (x : List ℕ) → Discard n p (s ++ x) q (t ++ x)
  discard_longer (discards h d bs e) x = discards (one_longer h x) d (blanks_longer bs x) (element_longer e x)

  pub blank_longer : {n p q : ℕ} {s t : List ℕ} → Blank n p s q t → (x : List ℕ) → Blank n p (s ++ x) q (t ++ x)
  blank_longer (white_byte i) x = white_byte (one_longer i x)
  blank_longer (comment i h) x = comment (comment_longer i x) h
  blank_longer (discarded d) x = discarded (discard_longer d x)

  blanks_longer : {n p q : ℕ} {s t : List ℕ} → Blanks n p s q t → (x : List ℕ) → Blanks n p (s ++ x) q (t ++ x)
  blanks_longer no_blank x = no_blank
  blanks_longer (one_more bs b) x = one_more (blanks_longer bs x) (blank_longer b x)

  pub element_longer : {n p q : ℕ} {s t : List ℕ} {v : Value} → Element n p s v q t → (x : List ℕ) → Element n p (s ++ x) v q (t ++ x)
  element_longer (run i h) x = run (inside_longer i x) h
  element_longer (hash_alone i h) x = hash_alone (one_longer i x) h
  element_longer (whole_text i h) x = whole_text (text_longer i x) h
  element_longer (tagged_element tg h bs e) x = tagged_element (tag_longer tg x) h (blanks_longer bs x) (element_longer e x)
  element_longer (collection i row m) x = collection (opens_longer i x) (row_longer row x) m

  pub row_longer : {n p q : ℕ} {s t : List ℕ} {vs : List Value} → Row n p s vs q t → (x : List ℕ) → Row n p (s ++ x) vs q (t ++ x)
  row_longer empty x = empty
  row_longer (blank row b) x = blank (row_longer row x) (blank_longer b x)
  row_longer (element row e) x = element (row_longer row x) (element_longer e x)

pub blanks_stay : {q : ℕ} {s t : List ℕ} → ShortBlanks s q t → (x : List ℕ) → ShortBlanks (s ++ x) q (t ++ x)
blanks_stay no_blank_yet x = no_blank_yet
blanks_stay (one_more_short bs b le) x = one_more_short (blanks_stay bs x) (blank_longer b x) le

pub spelled_stays : {p q : ℕ} {s : List ℕ} {v : Value} → Spells s v p q → (x : List ℕ) → Spells (s ++ x) v p q
spelled_stays (spells bs e le) x = spells (blanks_stay bs x) (element_longer e x) le

pub open_longer : {n p : ℕ} {s t : List ℕ} {st : List Frame} → Open s n st p t → (x : List ℕ) → Open (s ++ x) n st p (t ++ x)
open_longer (none_open bs) x = none_open (blanks_stay bs x)
open_longer (within o i row) x = within (open_longer o x) (opens_longer i x) (row_longer row x)
open_longer (waits o h d bs) x = waits (open_longer o x) (one_longer h x) d (blanks_longer bs x)
open_longer (awaits o tg h bs) x = awaits (open_longer o x) (tag_longer tg x) h (blanks_longer bs x)

faulty_longer : {j p : ℕ} {s : List ℕ} {k : EdnCause} → Faulty s j p k → (x : List ℕ) → Faulty (s ++ x) j p k
faulty_longer (unbalanced o h f) x = unbalanced (open_longer o x) h f
faulty_longer (odd_map o m) x = odd_map (open_longer o x) m
faulty_longer (too_deep o h) x = too_deep (open_longer o x) h
faulty_longer (hash_too_deep o i h) x = hash_too_deep (open_longer o x) (one_longer i x) h

least_longer : (s x : List ℕ) (j : ℕ) → IsLeast s j → IsLeast (s ++ x) j
least_longer s x j h = (h.0, h.1, h.2 ++ x, ap (λ l. l ++ x) h.3 ∙ append_assoc h.0 (h.1 ∷ h.2) x, h.4, h.5, h.6)

reach_longer : (s x : List ℕ) (j : ℕ) → IsInReach s j → IsInReach (s ++ x) j
reach_longer s x j h = (h.0, h.1 ++ x, blanks_stay h.2 x, h.3, h.4)

pub wrong_stays : (s x : List ℕ) (at : ℕ) (k : EdnCause) → IsWrong s at k → IsWrong (s ++ x) at k
wrong_stays s x at k h = (h.0, least_longer s x h.0 h.1, reach_longer s x h.0 h.2, faulty_longer h.3 x)
