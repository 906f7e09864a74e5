-- Spellings of words as values are told: of a long one the middle is left out, where no other one is told by the same text.
use Rattle.std.specs.Prelude.{ℕ, zero, suc, ◌||◌, ◌&&◌, not, Bool, List, [], ◌∷◌, ◌++◌, ◌-◌, codes, drop, length, nat_le, nat_lt, slice_index_or, take, if◌then◌else◌}
use Rattle.std.specs.List.{list_any}
use Rattle.std.specs.Str.{bytes_eq}
use Rattle.lin_tables.specs.declared.spellings.Wording.{Wording}
use Rattle.lin_tables.specs.declared.spellings.Wording.TheVariants.{Short, Whole}

-- a letter of UTF-8 may begin with the byte
abbrev pub begins_letter : ℕ → Bool
begins_letter byte = nat_lt byte 128 || nat_lt 191 byte

-- the last place up to this one at which a letter may begin, or 0
unfoldable pub letter_at : List ℕ → ℕ → ℕ
letter_at text zero = 0
letter_at text (suc at) = if begins_letter (slice_index_or text (suc at) 0) then suc at else letter_at text at

-- the text from where a letter may begin
unfoldable pub from_letter : List ℕ → List ℕ
from_letter [] = []
from_letter (byte ∷ text) = if begins_letter byte then byte ∷ text else from_letter text

-- a text of at most 24 bytes; of a longer one its first 10, up to where a letter may begin, three dots, and its last 11, from where one may
unfoldable pub short_text : List ℕ → List ℕ
short_text text = if nat_le (length text) 24 then text else take (letter_at text 10) text ++ codes "..." ++ from_letter (drop (length text - 11) text)

-- another spelling has the same short text
abbrev pub is_double : List ℕ → List ℕ → Bool
is_double word other = bytes_eq (short_text other) (short_text word) && not (bytes_eq other word)

-- a spelling by its short text, but as it stands where another one among the names has the same short text
unfoldable pub short_word : List (List ℕ) → List ℕ → List ℕ
short_word names word = if list_any (is_double word) names then word else short_text word

abbrev pub word_text : Wording → List (List ℕ) → List ℕ → List ℕ
word_text Short names word = short_word names word
word_text Whole names word = word
