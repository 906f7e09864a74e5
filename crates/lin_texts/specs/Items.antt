-- The texts of items, and the items that texts write.
use Rattle.std.specs.Prelude.{ℕ, ◌==◌, ◌&&◌, ◌||◌, not, nat_lt, Bool, List, true, false, length, drop, slice_index, Option, Some, codes, if◌then◌else◌}
use Rattle.std.specs.Fmt.{signed_decimal}
use Rattle.std.specs.List.{list_any}
use Rattle.std.specs.Option.{option_eq, option_map}
use Rattle.std.specs.Str.{bytes_eq}
use Rattle.lin_bytes.specs.Bytes.{is_stop}
use Rattle.lin_bytes.specs.TextEnds.{closing_end}
use Rattle.lin_events.specs.declared.items.Item.{Item}
use Rattle.lin_names.specs.Spelled.{Spelled, truth, number, word, spelled}
use Rattle.lin_texts.specs.Integers.{integer_of}

-- the text of what is seen of an item
abbrev pub spelled_text : Spelled → List ℕ
spelled_text (truth true) = codes "true"
spelled_text (truth false) = codes "false"
spelled_text (number i) = signed_decimal i
spelled_text (word w) = w

-- the text of an item
abbrev pub item_text : List (List ℕ) → Item → List ℕ
item_text names item = spelled_text (spelled names item)

-- a keyword: a colon (byte 58) and at least one byte more, none of which stops it
abbrev pub is_keyword : List ℕ → Bool
is_keyword text = (slice_index text 0 == 58) && nat_lt 1 (length text) && not (list_any is_stop (drop 1 text))

-- a string that is open at a place is closed by the last byte
abbrev pub is_closed : ℕ → List ℕ → Bool
is_closed from text = option_eq ◌==◌ (closing_end false from (drop from text)) (Some (length text))

-- a string: `"` (byte 34), or `#` (byte 35) and `"`, up to its closing quote
abbrev pub is_string : List ℕ → Bool
is_string text =
    ((slice_index text 0 == 34) && is_closed 1 text) || ((slice_index text 0 == 35) && (slice_index text 1 == 34) && is_closed 2 text)

-- a word: a keyword or a string with no end of a line in it
abbrev pub is_word : List ℕ → Bool
is_word text = (is_keyword text || is_string text) && not (list_any (λ c. c == 10) text)

-- what a text says of an item: `true`, `false`, a word, or an integer
abbrev pub item_written : List ℕ → Option Spelled
item_written text =
    if bytes_eq text (codes "true") then Some (truth true)
    else (if bytes_eq text (codes "false") then Some (truth false)
    else (if is_word text then Some (word text)
    else option_map number (integer_of text)))
