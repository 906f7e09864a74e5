-- States and replies as they are told: words of private contracts.
use Rattle.std.specs.Prelude.{◌≡◌, ℕ, List, Option, length, map, option_map, take}
use Rattle.std.specs.List.{AllZip}
use Rattle.lin_events.specs.declared.items.Item.{Item}
use Rattle.lin_names.specs.Spelled.{Spelled, spelled}
use Rattle.lin_order.specs.declared.placed.Placed.{Placed}
use Rattle.lin_possibilities.specs.After.{IsWay}
use Rattle.lin_possibilities.specs.Possible.{AreShown}
use Rattle.lin_tables.specs.declared.tables.ListLine.{ListLine}
use Rattle.lin_possibilities.specs.Ranks.{IsRisingBy, members_in}
use Rattle.lin_possibilities.specs.Words.{after_text, leading_to, reply_words, state_words}
use Rattle.lin_possibilities.specs.declared.listing.Leading.{Leading}
use Rattle.lin_possibilities.specs.declared.listing.Listed.{Listed}
use Rattle.lin_possibilities.specs.declared.possibilities.Possibility.{Possibility}
use Rattle.lin_possibilities.specs.declared.possibilities.Possibility.TheVariants.{Reply as AReply, State as AState}
use Rattle.lin_possibilities.specs.declared.ranks.Rank.{Rank}
use Rattle.lin_possibilities.specs.declared.told.Told.{Told}
use Rattle.lin_possibilities.specs.declared.words.Extent.{Extent}
use Rattle.lin_possibilities.specs.declared.words.Extent.TheVariants.{Short, Whole}

-- its words, those of a reply beside the recorded members, if members were recorded
abbrev pub words_in : Extent → List (List ℕ) → Option (List Item) → Possibility → List ℕ
words_in extent names recorded (AState state) = state_words extent names state
words_in extent names recorded (AReply reply) = reply_words extent names recorded reply

-- the same, by what is needed to tell it
abbrev pub words_by : Extent → Leading → Told → List ℕ
words_by extent by told = words_in extent by.names.now (members_in (option_map (λ r. r.now) by.recorded)) told.what

-- the words, and the operations that an order which is told by the way has ahead
pub record Leads (by : Leading) (told : Told) (entry : ListLine) : Type 0 where
  pub same : entry.words.items ≡ words_by Short by told
  pub after : (order : List Placed) → IsWay by.possible.now told.way order → entry.after.items ≡ after_text by.names.now by.events.now (leading_to by.call order)

-- how many there are, and of the first, at most so many, the lines and the whole words
pub record AreListed (by : Leading) (most : ℕ) (told : List Told) (listed : Listed) : Type 0 where
  pub counted : listed.count ≡ length told
  pub lines : AllZip (Leads by) (take most told) listed.entries.items
  pub whole : map (λ words. words.items) listed.whole.items ≡ map (words_by Whole by) (take most told)

module _ (names : List (List ℕ)) where
  -- how many items differ, and what is seen of the items
  abbrev pub rank_in : Rank → ℕ × List Spelled
  rank_in r = (r.differing, map (spelled names) r.items.items)

  -- it is sorted by its rank, and is what was found
  pub record IsTold {T : Type 0} (rank : T → ℕ × List Spelled) (made : T → Possibility) (found : T × ℕ) (told : Told) : Type 0 where
    pub ranked : rank_in told.rank ≡ rank found.0
    pub same : told.what ≡ made found.0
    pub way : told.way ≡ found.1

  -- all that is shown, rising
  pub record AreTold {T : Type 0} (shows : List Placed → T → Type 0) (tells : ℕ → List Placed → Type 0) (rank : T → ℕ × List Spelled) (made : T → Possibility) (told : List Told) : Type 0 where
    pub found : List (T × ℕ)
    pub shown : AreShown shows tells found
    pub each : AllZip (IsTold rank made) found told
    pub rising : IsRisingBy (λ t. rank_in t.rank) told
