-- What is asked about: a history, the kinds of its objects and a budget; and how an edit changes them.
use Rattle.std.specs.Prelude.{◌≡◌, ◌≤◌, ◌<◌, ℕ, false, List, [], ◌∷◌, ◌++◌, length, take, slice_set, remove}
use Rattle.lin_events.specs.declared.events.Event.{Event}
use Rattle.lin_objects.specs.declared.kinds.Kinds.{Kinds}
use Rattle.lin_objects.specs.Kinds.{is_named, named_count, with_kind}
use Rattle.lin_answers.specs.declared.edits.Edit.{Edit}
use Rattle.lin_answers.specs.declared.edits.Edit.TheVariants.{Append, Truncate, Replace, Remove, SetKind, SetBudget}
use Rattle.lin_answers.specs.declared.edits.EditFault.{EditFault}
use Rattle.lin_answers.specs.declared.edits.EditFault.TheVariants.{BadPosition, Full, BadBudget, OutOfMemory}

-- the present history, the kind of each key's object, and how many configurations may be kept for one object
pub record Present : Type 0 where
  pub history : List Event
  pub kinds : Kinds
  pub budget : ℕ

-- what an edit makes of them
abbrev pub edited : Edit → Present → Present
edited (Append event) now = record now { history = now.history ++ event ∷ [] }
edited (Truncate count) now = record now { history = take count now.history }
edited (Replace at event) now = record now { history = slice_set now.history at event }
edited (Remove at) now = record now { history = remove now.history at }
edited (SetKind key kind) now = record now { kinds = with_kind key kind now.kinds }
edited (SetBudget budget) now = record now { budget = budget }

-- a budget that can be set
abbrev pub IsBudget : ℕ → Type 0
IsBudget budget = (1 ≤ budget) × (budget ≤ 1000000)

-- when an edit is refused, and for which fault; want of memory is possible only where an edit takes memory
abbrev pub IsRefused : Edit → Present → EditFault → Type 0
IsRefused (Append event) now Full = 1000000 ≤ length now.history
IsRefused (Append event) now OutOfMemory = Unit {0}
IsRefused (Truncate count) now BadPosition = length now.history < count
IsRefused (Replace at event) now BadPosition = length now.history ≤ at
IsRefused (Remove at) now BadPosition = length now.history ≤ at
IsRefused (SetKind key kind) now Full = (named_count now.kinds ≡ 65536) × (is_named now.kinds key ≡ false)
IsRefused (SetKind key kind) now OutOfMemory = Unit {0}
IsRefused (SetBudget budget) now BadBudget = IsBudget budget → ⊥
IsRefused _ now _ = ⊥
