-- The element behind blanks at a place of a text is what a reader of the bytes from there on finds.
use Rattle.std.proofs.Common.{◌≡◌, ◌≢◌, ℕ, zero, suc, ◌+◌, ◌-◌, ◌<◌, ◌≤◌, List, ◌∷◌, length, take, drop, refl, sym, subst, arith}
use Rattle.std.proofs.lemmas.List.{length-drop, take_all}
use Rattle.lin_edn.specs.Grammar.{one, white_byte, Blanks, no_blank, one_more, ShortBlanks, no_blank_yet, one_more_short, Spells, spells, longest}
use Rattle.lin_edn.specs.Laws.{reading_later, ReadingsAreUnique, BlanksAreSkipped}
use Rattle.lin_edn.specs.Reading.{Reading, an_element, unfinished, blanks, refused, Allows, IsWantOfMemory}
use Rattle.lin_edn.specs.Value.{Value}
use Rattle.lin_edn.specs.declared.EdnCause.{EdnCause}
use Rattle.lin_edn.specs.declared.EdnCause.TheVariants as edn
use Rattle.lin_formats.specs.inner.Marks.{StandsAt}
use Rattle.lin_edn.specs.lemmas.Rising.{tail_rises, blanks_tail, blank_past, element_past}
use Rattle.lin_formats.proofs.Levels.{element_at_top, blank_at_top}

pub rest_is : (s : List ℕ) (n : ℕ) → take (length s - n) (drop n s) ≡ drop n s
rest_is s n = let size = length-drop n s in take_all (length s - n) (drop n s) (omega arith)

positive : 0 < longest
unfolding longest
positive = omega arith

-- so many spaces before some bytes
abbrev spaced : ℕ → List ℕ → List ℕ
spaced zero s = s
spaced (suc n) s = 32 ∷ spaced n s

spaces_from : (n k : ℕ) (s u : List ℕ) → ShortBlanks s k (spaced n u) → ShortBlanks s (k + n) u
spaces_from zero k s u h = let same : k ≡ k + zero = omega arith in subst (λ m. ShortBlanks s m u) same h
spaces_from (suc n) k s u h =
    let z : 0 < longest = positive in
    let first : ShortBlanks s (k + 1) (spaced n u) = one_more_short h (white_byte (one refl)) (omega arith) in
    let same : (k + 1) + n ≡ k + suc n = omega arith in
    subst (λ m. ShortBlanks s m u) same (spaces_from n (k + 1) s u first)

spaces : (n : ℕ) (u : List ℕ) → ShortBlanks (spaced n u) n u
spaces n u = let same : 0 + n ≡ n = omega arith in subst (λ m. ShortBlanks (spaced n u) m u) same (spaces_from n 0 (spaced n u) u no_blank_yet)

behind_spaces : (n : ℕ) (u : List ℕ) → drop n (spaced n u) ≡ u
behind_spaces zero u = refl
behind_spaces (suc n) u = behind_spaces n u

-- blanks within the longest length are short
short_blanks : {n p q : ℕ} {s t u : List ℕ} (limit : ℕ) → n ≤ 64 → limit ≤ p + longest → q ≤ limit → ShortBlanks s p t → Blanks n p t q u → ShortBlanks s q u
short_blanks limit few short le h no_blank = h
short_blanks {p = p} limit few short le h (one_more {q = m} {r = r} bs b) =
    let before : p ≤ m = tail_rises (blanks_tail bs) in
    let after : m < r = (blank_past b).0 in
    one_more_short (short_blanks limit few short (omega arith) h bs) (blank_at_top few b) (omega arith)

known_later : (n : ℕ) (a : Reading) → (IsWantOfMemory a → ⊥) → IsWantOfMemory (reading_later n a) → ⊥
known_later n (an_element v at used) h w = w
known_later n (blanks used) h w = w
known_later n (unfinished at) h w = w
known_later n (refused at cause) h w = h w

-- what is read from a place on is the element that stands there
pub found : ReadingsAreUnique → BlanksAreSkipped → (s : List ℕ) (from at used : ℕ) (v : Value) → StandsAt s from v at used →
    (a : Reading) → Allows (drop from s) a → (IsWantOfMemory a → ⊥) → reading_later from a ≡ an_element v at used
found unique skip s from at used v stands a allows known =
    let few : stands.0 ≤ 64 = stands.1 in
    let short : used ≤ from + longest = stands.4 in
    let front : ShortBlanks (spaced from (drop from s)) from (drop from s) = spaces from (drop from s) in
    let rises : from ≤ at = tail_rises (blanks_tail stands.2) in
    let some : at < used = (element_past stands.3).0 in
    let before : at ≤ from + longest = omega arith in
    let read : Allows (spaced from (drop from s)) (reading_later from a) =
    skip (spaced from (drop from s)) (drop from s) from a front (subst (λ l. Allows l a) (sym (behind_spaces from (drop from s))) allows) known in
    let blank : ShortBlanks (spaced from (drop from s)) at (drop at s) = short_blanks (from + longest) few (omega arith) before front stands.2 in
    let spelled : Spells (spaced from (drop from s)) v at used = spells blank (element_at_top few stands.3) (omega arith) in
    unique (spaced from (drop from s)) (reading_later from a) (an_element v at used) read spelled (known_later from a known) (λ z. z)

pub places_of : (n a u at used : ℕ) (v w : Value) → reading_later n (an_element v a u) ≡ an_element w at used → (n + a ≡ at) × (n + u ≡ used)
places_of n a u at used v w h = (cc, cc)

pub no_unfinished : (n a at used : ℕ) (w : Value) → reading_later n (unfinished a) ≡ an_element w at used → ⊥
no_unfinished n a at used w h = cc

pub no_blanks : (n a at used : ℕ) (w : Value) → reading_later n (blanks a) ≡ an_element w at used → ⊥
no_blanks n a at used w h = cc

pub no_refusal : (n a at used : ℕ) (cause : EdnCause) (w : Value) → reading_later n (refused a cause) ≡ an_element w at used → ⊥
no_refusal n a at used cause w h = cc

pub no_want : (a : ℕ) (cause : EdnCause) → cause ≢ edn.OutOfMemory → IsWantOfMemory (refused a cause) → ⊥
no_want a edn.Unbalanced h w = w
no_want a edn.OddMap h w = w
no_want a edn.TooDeep h w = w
no_want a edn.TooLong h w = w
no_want a edn.OutOfMemory h w = h refl
