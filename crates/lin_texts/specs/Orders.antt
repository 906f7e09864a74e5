-- The orders that texts write: the word `empty`, or pairs of a position and a reply.
use Rattle.std.specs.Prelude.{◌≡◌, ℕ, ◌+◌, ◌-◌, ◌^◌, ◌==◌, ◌&&◌, Bool, true, List, [], ◌∷◌, length, map, take, drop, slice_index, slice_range, Option, None, Some, Result, Ok, Err, codes, if◌then◌else◌}
use Rattle.std.specs.List.{list_all, position}
use Rattle.std.specs.Option.{option_map}
use Rattle.std.specs.Ordering.{is_lt}
use Rattle.std.specs.Str.{bytes_eq}
use Rattle.lin_lists.specs.Sets.{members_of}
use Rattle.lin_events.specs.declared.calls.Val.TheVariants.{Item as Held, Nil}
use Rattle.lin_events.specs.declared.calls.Reply.{Reply}
use Rattle.lin_events.specs.declared.calls.Reply.TheVariants.{Done, Value, Members}
use Rattle.lin_events.specs.Items.{item_cmp}
use Rattle.lin_names.specs.Names.{AgreesWith, Numbering}
use Rattle.lin_names.specs.Spelled.{Spelled, numbered, spelled_cmp}
use Rattle.lin_order.specs.declared.placed.Placed.{Placed}
use Rattle.lin_texts.specs.Integers.{number_of}
use Rattle.lin_texts.specs.Items.{item_written}
use Rattle.lin_texts.specs.Parts.{Part, parts_from, filled_from}
use Rattle.lin_texts.specs.declared.parts.Division.TheVariants as division
use Rattle.lin_texts.specs.declared.faults.OrderFault.{OrderFault}
use Rattle.lin_texts.specs.declared.faults.OrderFault.TheVariants.{BadPair, OutOfMemory}

-- a reply as a text says it: words by their spellings, members in the order of print
pub data SaidReply : Type 0 where
  done : SaidReply
  nil : SaidReply
  item : Spelled → SaidReply
  members : List Spelled → SaidReply

-- a pair as a text says it
pub record SaidPair : Type 0 where
  pub at : ℕ
  pub reply : SaidReply

abbrev pub is_below : Spelled → Spelled → Bool
is_below x y = is_lt (spelled_cmp x y)

-- each item is below all later ones in print
abbrev pub is_rising : List Spelled → Bool
is_rising [] = true
is_rising (x ∷ xs) = list_all (is_below x) xs && is_rising xs

abbrev pub only_rising : Option (List Spelled) → Option (List Spelled)
only_rising None = None
only_rising (Some xs) = if is_rising xs then Some xs else None

-- one before the others, where all of them are there
abbrev pub before_all : {X : Type 0} → Option X → Option (List X) → Option (List X)
before_all None others = None
before_all (Some x) None = None
before_all (Some x) (Some xs) = Some (x ∷ xs)

-- the items that the parts write, where each writes one
abbrev pub items_of : List Part → Option (List Spelled)
items_of [] = Some []
items_of (part ∷ parts) = before_all (item_written part.text) (items_of parts)

-- the members that a text writes between braces: nothing, or items that rise strictly in print, with commas between them
abbrev pub members_written : List ℕ → Option (List Spelled)
members_written text = if length text == 0 then Some [] else only_rising (items_of (parts_from division.Members 0 text))

-- begins with `{` and ends with `}`
abbrev pub is_braced : List ℕ → Bool
is_braced text = (slice_index text 0 == 123) && (slice_index text (length text - 1) == 125)

-- the reply that a text writes: `done`, `nil`, members between braces, or an item
abbrev pub reply_written : List ℕ → Option SaidReply
reply_written text =
    if bytes_eq text (codes "done") then Some done
    else (if bytes_eq text (codes "nil") then Some nil
    else (if is_braced text then option_map members (members_written (slice_range text 1 (length text - 1)))
    else option_map item (item_written text)))

abbrev pub said_pair : Option ℕ → Option SaidReply → Option SaidPair
said_pair None reply = None
said_pair (Some at) None = None
said_pair (Some at) (Some reply) = Some (record { at = at; reply = reply })

abbrev pub pair_at : List ℕ → Option ℕ → Option SaidPair
pair_at word None = None
pair_at word (Some split) = said_pair (number_of (2 ^ 64 - 1) (take split word)) (reply_written (drop (split + 1) word))

-- the pair that a word writes: a position and a reply, with the first `=` (byte 61) between them
abbrev pub pair_written : List ℕ → Option SaidPair
pair_written word = pair_at word (position (λ c. c == 61) word)

-- a pair before the others, or the place of the first word that writes none
abbrev pub before_pairs : ℕ → Option SaidPair → Result (List SaidPair) ℕ → Result (List SaidPair) ℕ
before_pairs at None others = Err at
before_pairs at (Some pair) (Ok pairs) = Ok (pair ∷ pairs)
before_pairs at (Some pair) (Err place) = Err place

-- the pairs that the words write, or the place of the first word that writes none
abbrev pub pairs_of : List Part → Result (List SaidPair) ℕ
pairs_of [] = Ok []
pairs_of (word ∷ words) = before_pairs word.at (pair_written word.text) (pairs_of words)

-- the word `empty` alone, or one pair or more; where there is no word the place is 0
abbrev pub pairs_of_words : List Part → Result (List SaidPair) ℕ
pairs_of_words [] = Err 0
pairs_of_words (word ∷ []) = if bytes_eq word.text (codes "empty") then Ok [] else pairs_of (word ∷ [])
pairs_of_words (word ∷ next ∷ words) = pairs_of (word ∷ next ∷ words)

-- the pairs that a text writes, or the place of the first word that writes none
abbrev pub order_written : List ℕ → Result (List SaidPair) ℕ
order_written text = pairs_of_words (filled_from division.Pairs 0 text)

module _ (number : Numbering) where
  -- the reply that is so said: members are put into the order inside
  abbrev pub reply_of : SaidReply → Reply
  reply_of done = Done
  reply_of nil = Value Nil
  reply_of (item x) = Value (Held (numbered number x))
  reply_of (members xs) = Members (members_of item_cmp (map (numbered number) xs))

  abbrev pub pair_of : SaidPair → Placed
  pair_of pair = record { at = pair.at; reply = reply_of pair.reply }

  abbrev pub order_said : Result (List SaidPair) ℕ → Result (List Placed) ℕ
  order_said (Ok pairs) = Ok (map pair_of pairs)
  order_said (Err at) = Err at

  -- the order that a text writes, or the place of the first word that writes no pair
  abbrev pub order_of : List ℕ → Result (List Placed) ℕ
  order_of text = order_said (order_written text)

-- by each numbering that agrees with the names the text writes this order
abbrev pub IsOrderBy : List (List ℕ) → List ℕ → List Placed → Type 0
IsOrderBy names text order = (number : Numbering) → AgreesWith names number → order_of number text ≡ Ok order

-- the fault tells the place of the first word that writes no pair, or it is want of memory
abbrev pub IsRefusedAs : Result (List SaidPair) ℕ → OrderFault → Type 0
IsRefusedAs written (BadPair at) = written ≡ Err at
IsRefusedAs written OutOfMemory = Unit {0}
