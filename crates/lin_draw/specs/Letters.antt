-- Letters as SVG shows them.
use Rattle.std.specs.Prelude.{ℕ, List, [], ◌∷◌, ◌++◌, Bool, ◌-◌, ◌==◌, ◌||◌, if◌then◌else◌, codes, length, nat_le, take}
use Rattle.std.specs.Char.{encode_utf8, is_control}
use Rattle.std.specs.List.{flat_map}
use Rattle.std.specs.Str.{chars}
use Rattle.std.specs.Str.Lossy.{utf8_lossy}

-- XML doesn't have the last two, and control characters aren't shown
abbrev pub is_unshown : ℕ → Bool
is_unshown c = is_control c || (c == 65534 || c == 65535)

-- in the place of a letter that isn't shown stands U+FFFD
abbrev pub shown_letter : ℕ → ℕ
shown_letter c = if is_unshown c then 65533 else c

-- what would be taken for a mark of XML is named
abbrev pub letter_text : ℕ → List ℕ
letter_text c = if c == 38 then codes "&amp;" else if c == 60 then codes "&lt;" else if c == 62 then codes "&gt;" else if c == 34 then codes "&quot;"
    else encode_utf8 (shown_letter c)

-- bytes that are no UTF-8 are U+FFFD
abbrev pub letters : List ℕ → List ℕ
letters bytes = chars (utf8_lossy bytes)

-- so many letters of a text; where it has more, the last one of these is an ellipsis
abbrev pub shown_text : List ℕ → ℕ → List ℕ
shown_text bytes most = if nat_le (length (letters bytes)) most then flat_map letter_text (letters bytes)
    else flat_map letter_text (take (most - 1) (letters bytes)) ++ (226 ∷ 128 ∷ 166 ∷ [])
