-- What is told of a yes.
use Rattle.std.specs.Prelude.{◌≡◌, ◌-◌, ◌++◌, ℕ, Bool, true, false, List, [], Option, Some, None, codes, decimal, length}
use Rattle.lin_events.specs.declared.items.Item.{Item}
use Rattle.lin_events.specs.declared.events.Event.{Event}
use Rattle.lin_order.specs.declared.placed.Placed.{Placed}
use Rattle.lin_answers.specs.Edits.{Present}
use Rattle.lin_answers.specs.Keys.{AreKeys}
use Rattle.lin_texts.specs.Texts.{order_text}
use Rattle.lin_explain.specs.Counts.{count_in, open_in}
use Rattle.lin_explain.specs.Parts.{object_in}
use Rattle.lin_explain.specs.declared.parts.Parts.{Parts}
use Rattle.lin_explain.specs.declared.parts.Parts.TheVariants as Part
use Rattle.lin_explain.specs.declared.counts.Sort.TheVariants.{Invoked, Ok, Failed, Crashed}

abbrev pub open_counts_text : Option Item → List Event → ℕ → List ℕ
open_counts_text key h objects = codes ", open " ++ decimal (open_in key h) ++ codes " (crashed " ++ decimal (count_in key Crashed h)
    ++ codes "); objects " ++ decimal objects ++ codes "\n"

abbrev pub counts_text : Option Item → List Event → ℕ → List ℕ
counts_text key h objects = codes "operations " ++ decimal (count_in key Invoked h) ++ codes ": ok " ++ decimal (count_in key Ok h)
    ++ codes ", failed " ++ decimal (count_in key Failed h) ++ open_counts_text key h objects

-- a legal order has each ok operation, so the others that it has are open ones
unfoldable pub placed_in : Option Item → List Event → List Placed → ℕ
placed_in key h order = length order - count_in key Ok h

abbrev pub places_text : Option Item → List Event → List Placed → List ℕ
places_text key h order = codes "a legal order places " ++ decimal (placed_in key h order) ++ codes " of the " ++ decimal (open_in key h)
    ++ codes " open ones\n"

module _ (names : List (List ℕ)) where
  -- of one object, or of all that the history has
  abbrev pub AreObjects : Option Item → List Event → ℕ → Type 0
  AreObjects (Some key) h n = n ≡ 1
  AreObjects None h n = (keys : List Item) × AreKeys names h keys × (n ≡ length keys)

  abbrev pub order_line : Bool → List Placed → List ℕ
  order_line false order = []
  order_line true order = codes "order " ++ order_text names order ++ codes "\n"

  abbrev pub yes_text : Option Item → Bool → List Event → ℕ → List Placed → List ℕ
  yes_text key with_order h objects order = (counts_text key h objects ++ places_text key h order) ++ order_line with_order order

  -- the lines: operations by how they ended, how many open ones the order places, and the order, if it is wanted. The parts have the object that was
  -- asked about
  pub record IsYesText (now : Present) (key : Option Item) (with_order : Bool) (order : List Placed) (lines : List ℕ) (parts : Parts) : Type 0 where
    pub objects : ℕ
    pub are_objects : AreObjects key now.history objects
    pub says : lines ≡ yes_text key with_order now.history objects order
    pub told : parts ≡ Part.Yes (object_in now key)
