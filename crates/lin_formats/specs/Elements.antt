-- What elements are, as far as hints ask.
use Rattle.std.specs.Prelude.{Bool, true, false, List, ℕ, codes, is_some}
use Rattle.lin_edn.specs.Value.{Value, map, text, Entries, entry}
use Rattle.lin_history.specs.Table.{bare, or_nil, pair_of, under}

abbrev pub has_pair_in : Value → Bool
has_pair_in (map es) = is_some (pair_of (or_nil (under (codes ":value") es)))
has_pair_in _ = false

-- the `:value` of a map is a vector or list of two
abbrev pub has_pair : Value → Bool
has_pair v = has_pair_in (bare v)

-- the first key is a string
abbrev pub has_string_in : Entries → Bool
has_string_in (entry (text at w) v es) = true
has_string_in _ = false

abbrev pub is_of_strings : Value → Bool
is_of_strings (map es) = has_string_in es
is_of_strings _ = false

-- the first key of a map is a string
abbrev pub has_string : Value → Bool
has_string v = is_of_strings (bare v)
