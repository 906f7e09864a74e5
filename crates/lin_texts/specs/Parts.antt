-- The parts into which a byte divides a text, strings apart, and the words of a text.
use Rattle.std.specs.Prelude.{◌≡◌, ℕ, suc, ◌+◌, ◌<◌, ◌≤◌, ◌==◌, ◌&&◌, ◌||◌, not, nat_lt, Bool, true, false, List, [], ◌∷◌, length, drop, if◌then◌else◌}
use Rattle.std.specs.List.{filter}
use Rattle.lin_texts.specs.declared.parts.Division.{Division}
use Rattle.lin_texts.specs.declared.parts.Division.TheVariants.{Words, Pairs, Members}
use Rattle.lin_texts.specs.declared.parts.Standing.{Standing}
use Rattle.lin_texts.specs.declared.parts.Standing.TheVariants.{Fresh, Hashed, Quoted, Escaped, Plain}

-- a part of a text, with the place of its first byte
pub record Part : Type 0 where
  pub at : ℕ
  pub text : List ℕ

-- the byte that divides
abbrev pub separator : Division → ℕ
separator Words = 32
separator Pairs = 32
separator Members = 44

-- A string may begin where a part does; in a pair of an order behind `=`, `{` and `,` too.
abbrev pub opens : Division → ℕ → Bool
opens Words c = false
opens Pairs c = (c == 61) || (c == 123) || (c == 44)
opens Members c = false

-- what a byte that belongs to no string makes of the next one
abbrev pub behind : Division → ℕ → Standing
behind division c = if opens division c then Fresh else Plain

-- How the next byte stands. A hash is a string's where a quote follows it at once, and else a byte like others: a command word may begin with
-- it, and in an order a keyword may have `=#` in it. Behind a backslash in a string no byte closes it.
abbrev pub next : Division → Standing → ℕ → Standing
next division Fresh c = if c == 34 then Quoted else (if c == 35 then Hashed else behind division c)
next division Hashed c = if c == 34 then Quoted else behind division c
next division Quoted c = if c == 34 then Plain else (if c == 92 then Escaped else Quoted)
next division Escaped c = Quoted
next division Plain c = behind division c

-- it stands in a string
abbrev pub is_inside : Standing → Bool
is_inside Fresh = false
is_inside Hashed = false
is_inside Quoted = true
is_inside Escaped = true
is_inside Plain = false

-- a separator in no string
abbrev pub divides : Division → Standing → ℕ → Bool
divides division standing c = not (is_inside standing) && (c == separator division)

-- the parts, where c stands in front of the first one
abbrev pub with_first : ℕ → ℕ → List Part → List Part
with_first at c [] = []
with_first at c (part ∷ parts) = (record { at = at; text = c ∷ part.text }) ∷ parts

-- the parts of a text whose first byte stands so
abbrev pub parts_on : Division → Standing → ℕ → List ℕ → List Part
parts_on division standing at [] = (record { at = at; text = [] }) ∷ []
parts_on division standing at (c ∷ s) =
    if divides division standing c then (record { at = at; text = [] }) ∷ parts_on division Fresh (suc at) s
    else with_first at c (parts_on division (next division standing c) (suc at) s)

-- the parts of a text between its separators, one more than there are separators; the text begins at `at`
abbrev pub parts_from : Division → ℕ → List ℕ → List Part
parts_from division at s = parts_on division Fresh at s

abbrev pub is_filled : Part → Bool
is_filled part = nat_lt 0 (length part.text)

-- the parts that aren't empty
abbrev pub filled_from : Division → ℕ → List ℕ → List Part
filled_from division at s = filter is_filled (parts_from division at s)

-- The words of a text that begins at `at`: what stands between its spaces, where that is not empty. A word that begins with `"` or `#"` runs
-- through its closing quote to the next space, or to the end where no quote closes; any other ends at the next space.
abbrev pub words_from : ℕ → List ℕ → List Part
words_from at s = filled_from Words at s

-- the parts behind the first one: none where the text ends with it, else those behind the separator
abbrev pub parts_behind : Division → ℕ → List ℕ → List Part
parts_behind division at [] = []
parts_behind division at (c ∷ s) = parts_from division (suc at) s

-- the first of the filled parts from a place on is this one, and the others are those from its end on
abbrev pub IsFirstFilled : Division → List ℕ → ℕ → Part → Type 0
IsFirstFilled division text from part =
    let end = part.at + length part.text in
    (filled_from division from (drop from text) ≡ part ∷ filled_from division end (drop end text))
    × (from ≤ part.at) × (0 < length part.text) × (end ≤ length text)

-- the same of words
abbrev pub IsFirstWord : List ℕ → ℕ → Part → Type 0
IsFirstWord text from word = IsFirstFilled Words text from word
