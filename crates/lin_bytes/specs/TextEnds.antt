-- Where a text ends, told by its bytes.
use Rattle.std.specs.Prelude.{ℕ, ◌+◌, Bool, true, false, List, [], ◌∷◌, Option, Some, None}
use Rattle.lin_bytes.specs.Bytes.{Quoted, quoted, ends, escapes, stays}

-- one of three, by what a byte of a text does
abbrev pub by_quoted : {A : Type 0} → Quoted → A → A → A → A
by_quoted ends a b c = a
by_quoted escapes a b c = b
by_quoted stays a b c = c

-- where a text ends, told by the bytes behind a place in it: behind the next quote; a byte behind a backslash closes nothing
abbrev pub closing_end : Bool → ℕ → List ℕ → Option ℕ
closing_end escaped q [] = None
closing_end true q (b ∷ t) = closing_end false (q + 1) t
closing_end false q (b ∷ t) = by_quoted (quoted b) (Some (q + 1)) (closing_end true (q + 1) t) (closing_end false (q + 1) t)

-- the same behind a byte that closes the text, or makes the next one escaped or not
abbrev pub closing_after : Option Bool → ℕ → List ℕ → Option ℕ
closing_after None q t = Some (q + 1)
closing_after (Some escaped) q t = closing_end escaped (q + 1) t
