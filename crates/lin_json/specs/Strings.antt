-- Strings of JSON. What they hold are bytes: all but quotes, backslashes and control characters stand as they are.
use Rattle.std.specs.Prelude.{ℕ, List, [], ◌∷◌, ◌++◌, ◌==◌, ◌/◌, ◌%◌, nat_lt, false, codes, if◌then◌else◌}
use Rattle.std.specs.Fmt.{digit_glyph}
use Rattle.std.specs.List.{flat_map}

-- a control character by its number, in two hexadecimal digits
abbrev pub control_json : ℕ → List ℕ
control_json c = codes "\\u00" ++ digit_glyph false (c / 16) ∷ digit_glyph false (c % 16) ∷ []

-- a byte of a string: a quote and a backslash behind a backslash, the end of a line as \n, any other control character by its number
abbrev pub byte_json : ℕ → List ℕ
byte_json c =
    if c == 34 then codes "\\\""
    else if c == 92 then codes "\\\\"
    else if c == 10 then codes "\\n"
    else if nat_lt c 32 then control_json c
    else c ∷ []

abbrev pub string_json : List ℕ → List ℕ
string_json bytes = codes "\"" ++ flat_map byte_json bytes ++ codes "\""
