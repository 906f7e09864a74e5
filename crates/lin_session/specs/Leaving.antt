-- What an edit leaves of what is known.
use Rattle.std.specs.Prelude.{◌≡◌, ◌≤◌, ◌*◌, ◌/◌, ◌||◌, ℕ, Bool, true, false, min, nat_lt, Option, None, Some, length}
use Rattle.lin_events.specs.declared.items.Item.{Item}
use Rattle.lin_events.specs.Items.{item_eq}
use Rattle.lin_events.specs.Operations.{IsEvent}
use Rattle.lin_order.specs.Orders.{is_of_key}
use Rattle.lin_order.specs.Parts.{part}
use Rattle.lin_engines.specs.declared.ends.End.{End}
use Rattle.lin_engines.specs.declared.ends.End.TheVariants.{Over}
use Rattle.lin_chain.specs.Chains.{IsDecided, IsMarkBefore}
use Rattle.lin_chain.specs.Work.{Mark, unasked}
use Rattle.lin_answers.specs.declared.edits.Edit.{Edit}
use Rattle.lin_answers.specs.declared.edits.Edit.TheVariants.{Append, Truncate, Replace, Remove, SetKind, SetBudget}
use Rattle.lin_answers.specs.Edits.{Present}
use Rattle.lin_session.specs.Known.{count_before}

-- the lesser of two numbers, where there are two
abbrev pub least : Option ℕ → Option ℕ → Option ℕ
least None b = b
least (Some m) None = Some m
least (Some m) (Some n) = Some (min m n)

-- the greatest multiple of 64 that is at most the number
abbrev pub rounded : ℕ → ℕ
rounded n = n / 64 * 64

-- how many of the first events are still known to be well-formed or not after an edit; none, where all are
abbrev pub low_after : Edit → Present → Option ℕ → Option ℕ
low_after (Append event) now low = least low (Some (length now.history))
low_after (Truncate count) now low = least low (Some (rounded count))
low_after (Replace at event) now low = least low (Some (rounded at))
low_after (Remove at) now low = least low (Some (rounded at))
low_after (SetKind key kind) now low = Some 0
low_after (SetBudget budget) now low = low

-- an object that the edit touches goes back to the place, and any other one stays as it is
abbrev pub IsTouched : Bool → ℕ → Mark → Mark → Type 0
IsTouched true place old new = IsMarkBefore place old new
IsTouched false place old new = new ≡ old

-- an event more, behind all others, leaves the engines where they are
pub record IsLonger (old new : Mark) : Type 0 where
  pub frontier : new.frontier ≡ old.frontier
  pub beside : new.beside ≡ old.beside
  pub searched : new.searched ≡ old.searched
  pub free : new.stopped ≡ false

abbrev pub IsAppended : Bool → Mark → Mark → Type 0
IsAppended true old new = IsLonger old new
IsAppended false old new = new ≡ old

-- of an object of another kind nothing is known
abbrev pub IsRekinded : Bool → Mark → Mark → Type 0
IsRekinded true old new = new ≡ unasked
IsRekinded false old new = new ≡ old

-- Under a larger budget it stays told which events have a legal order or none. Where frontiers were over, they go back at most to that event.
pub record IsRaised (old new : Mark) : Type 0 where
  pub told : (count : ℕ) (end : End) → old.told count ≡ Some end → IsDecided end → new.told count ≡ Some end
  pub over : (count at : ℕ) → old.told count ≡ Some (Over at) → at ≤ new.frontier
  pub no_more : new.frontier ≤ old.frontier
  pub beside : new.beside ≡ old.beside
  pub searched : new.searched ≡ old.searched
  pub stopped : new.stopped ≡ old.stopped

abbrev pub IsRebudgeted : Bool → Mark → Mark → Type 0
IsRebudgeted true old new = IsRaised old new
IsRebudgeted false old new = new ≡ old

-- What an edit makes of the mark of the key's object. It touches the object of an event that it puts in, takes out or replaces, at the number of the
-- object's events before that. An event in place of an equal one leaves all as it is.
abbrev pub IsMarkAfter : Edit → Present → Item → Mark → Mark → Type 0
IsMarkAfter (Append event) now key old new = IsAppended (item_eq event.key key) old new
IsMarkAfter (Truncate count) now key old new = IsTouched (nat_lt (count_before now.history key count) (length (part key now.history))) (count_before now.history key count) old new
IsMarkAfter (Replace at event) now key old new = (IsEvent now.history at event → new ≡ old)
    × ((IsEvent now.history at event → ⊥) → IsTouched (item_eq event.key key || is_of_key now.history key at) (count_before now.history key at) old new)
IsMarkAfter (Remove at) now key old new = IsTouched (is_of_key now.history key at) (count_before now.history key at) old new
IsMarkAfter (SetKind named kind) now key old new = IsRekinded (item_eq named key) old new
IsMarkAfter (SetBudget budget) now key old new = IsRebudgeted (nat_lt now.budget budget) old new
