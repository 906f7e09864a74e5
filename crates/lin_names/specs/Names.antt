-- The spellings of words: a list, in which each stands once. A word is a place in it.
use Rattle.std.specs.Prelude.{◌≡◌, ℕ, suc, List, [], ◌∷◌, ◌++◌, map, Some, slice_get, if◌then◌else◌}
use Rattle.std.specs.List.{list_any}
use Rattle.std.specs.Str.{bytes_eq}
use Rattle.std.specs.Global.{Vec}

-- the bytes of each
abbrev pub items_of : List (Vec ℕ) → List (List ℕ)
items_of = map (λ (v : Vec ℕ). v.items)

-- the spelling has this number
abbrev pub IsSpelling : List (List ℕ) → List ℕ → ℕ → Type 0
IsSpelling names w n = slice_get names n ≡ Some w

-- no spelling has two numbers
abbrev pub AreEachOnce : List (List ℕ) → Type 0
AreEachOnce names = (m n : ℕ) (w : List ℕ) → IsSpelling names w m → IsSpelling names w n → m ≡ n

-- a spelling put last, unless it is there
abbrev pub interned : List ℕ → List (List ℕ) → List (List ℕ)
interned w names = if list_any (bytes_eq w) names then names else names ++ w ∷ []

-- the first list begins the second, which may have more
abbrev pub Begins : List (List ℕ) → List (List ℕ) → Type 0
Begins old new = (more : List (List ℕ)) × (new ≡ old ++ more)

-- A numbering of all spellings. What a text says is defined for any; what is read by some names holds of each that agrees with them.
abbrev pub Numbering : Type 0
Numbering = List ℕ → ℕ

-- each spelling that has a number has that one
abbrev pub AgreesWith : List (List ℕ) → Numbering → Type 0
AgreesWith names number = (w : List ℕ) (n : ℕ) → IsSpelling names w n → number w ≡ n

-- the number of a spelling; how many spellings there are, where it has none
abbrev pub number_of : List (List ℕ) → Numbering
number_of [] w = 0
number_of (v ∷ names) w = if bytes_eq w v then 0 else suc (number_of names w)

-- a numbering agrees with the names
abbrev pub NumberingsAgree : Type 0
NumberingsAgree = (names : List (List ℕ)) → AreEachOnce names → AgreesWith names (number_of names)

-- one that agrees with more names agrees with those before
abbrev pub NumberingsNarrow : Type 0
NumberingsNarrow = (old new : List (List ℕ)) (number : Numbering) → Begins old new → AgreesWith new number → AgreesWith old number

-- a number's spelling never changes
abbrev pub NumbersStay : Type 0
NumbersStay = (w v : List ℕ) (names : List (List ℕ)) (n : ℕ) → IsSpelling names v n → IsSpelling (interned w names) v n

-- each spelling still stands once
abbrev pub StaysEachOnce : Type 0
StaysEachOnce = (w : List ℕ) (names : List (List ℕ)) → AreEachOnce names → AreEachOnce (interned w names)
