-- Which elements are found in place at least: those without comments, discards, characters and escaped bytes.
use Rattle.std.specs.Prelude.{◌≡◌, ℕ, ◌+◌, ◌<◌, ◌≤◌, Bool, true, false, List, drop, slice_index}
use Rattle.lin_bytes.specs.Bytes.{Class, class, white, semicolon, opener, closer, quote, backslash, hash, inside, Behind, behind, opens_set, opens_text, discards, joins, stands_apart, names_tag}
use Rattle.lin_edn.specs.Grammar.{Element}
use Rattle.lin_edn.specs.Value.{Value}

-- a `#` before this opens a set or begins a tag
abbrev pub is_simple_behind : Behind → Bool
is_simple_behind opens_set = true
is_simple_behind opens_text = false
is_simple_behind discards = false
is_simple_behind joins = false
is_simple_behind stands_apart = false
is_simple_behind names_tag = true

-- a byte of this class with this behind it: no `;` and no `\`, and a `#` before nothing but a set or the name of a tag
abbrev pub is_simple : Class → Behind → Bool
is_simple white b = true
is_simple semicolon b = false
is_simple (opener k) b = true
is_simple closer b = true
is_simple quote b = true
is_simple backslash b = false
is_simple hash b = is_simple_behind b
is_simple inside b = true

-- all bytes from one place up to another are so
abbrev pub IsSimple : List ℕ → ℕ → ℕ → Type 0
IsSimple s from until = (i : ℕ) → from ≤ i → i < until → is_simple (class (slice_index s i)) (behind (slice_index s (i + 1))) ≡ true

-- each element with so many levels that stands at a place, ends before another and is made of such bytes ends where the code says
abbrev pub FindsSimple : List ℕ → ℕ → ℕ → ℕ → ℕ → Type 0
FindsSimple s from end levels result = (v : Value) (used : ℕ) → levels ≤ 64 → Element levels from (drop from s) v used (drop used s) → IsSimple s from used →
    used < end → result ≡ used

-- each element that stands at a place, ends before another and begins with a byte of a class ends where the code says
abbrev pub FindsBegun : Class → List ℕ → ℕ → ℕ → ℕ → Type 0
FindsBegun k s from end result = (n : ℕ) (v : Value) (used : ℕ) → n ≤ 64 → Element n from (drop from s) v used (drop used s) → class (slice_index s from) ≡ k →
    used < end → result ≡ used
