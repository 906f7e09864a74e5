-- What is known of the objects of a history.
use Rattle.std.specs.Prelude.{◌≡◌, ℕ, Bool, List, [], ◌∷◌, Option, length, take, if◌then◌else◌}
use Rattle.lin_events.specs.declared.items.Item.{Item}
use Rattle.lin_events.specs.Items.{item_eq}
use Rattle.lin_events.specs.declared.events.Event.{Event}
use Rattle.lin_order.specs.Parts.{part}
use Rattle.lin_engines.specs.declared.ends.End.{End}
use Rattle.lin_engines.specs.declared.says.Says.{Says}
use Rattle.lin_engines.specs.Lanes.{told_of}
use Rattle.lin_chain.specs.Chains.{first_of}
use Rattle.lin_chain.specs.Work.{Mark, unasked}

-- what one that tells of an object's events said last, how many it has gone through, and how many are no longer due to it
pub record Teller : Type 0 where
  pub said : Says
  pub reached : ℕ
  pub mark : ℕ

-- Who tells of an object: a search, the engine beside its frontiers, and these; how many of its events are no longer due to searches; and whether a
-- witness couldn't go on since the last edit.
pub record Known : Type 0 where
  pub found : Teller
  pub beside : Teller
  pub frontier : Teller
  pub searched : ℕ
  pub stopped : Bool

abbrev pub told_by : Teller → ℕ → Option End
told_by teller count = told_of teller.said teller.reached teller.mark count

-- its mark
abbrev pub mark_from : Known → Mark
mark_from known = record {
  told = λ count. first_of (told_by known.found count) (first_of (told_by known.beside count) (told_by known.frontier count));
  frontier = known.frontier.mark;
  beside = known.beside.mark;
  searched = known.searched;
  stopped = known.stopped;
}

-- the mark of the key's object, if it is one of which something is known
abbrev pub mark_of : List (Item × Known) → Item → Mark
mark_of [] key = unasked
mark_of ((x, known) ∷ rest) key = if item_eq x key then mark_from known else mark_of rest key

-- all marks are the same
abbrev pub AreSameMarks : (Item → Mark) → (Item → Mark) → Type 0
AreSameMarks old new = (key : Item) → new key ≡ old key

-- how many of the first events are of the key
abbrev pub count_before : List Event → Item → ℕ → ℕ
count_before h key at = length (part key (take at h))
