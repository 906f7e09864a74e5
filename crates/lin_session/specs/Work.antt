-- What a question costs after edits.
use Rattle.std.specs.Prelude.{◌≤◌, ◌+◌, ◌-◌, ℕ, not, List, [], ◌∷◌, Option, None, Some, filter, length}
use Rattle.std.specs.List.{sum_by}
use Rattle.lin_events.specs.declared.items.Item.{Item}
use Rattle.lin_events.specs.Items.{item_eq}
use Rattle.lin_events.specs.declared.events.Event.{Event}
use Rattle.lin_order.specs.Parts.{part}
use Rattle.lin_chain.specs.Work.{Mark, for_stop, left}
use Rattle.lin_answers.specs.declared.answers.Scope.{Scope}
use Rattle.lin_answers.specs.declared.answers.Scope.TheVariants.{Object, Whole}

-- how many of so many events are scanned anew: those behind the first ones that stand, or where nothing changed none
abbrev pub anew : Option ℕ → ℕ → ℕ
anew None count = 0
anew (Some first) count = count - first

-- the keys of the history, each once
abbrev pub keys_of : List Event → List Item
keys_of [] = []
keys_of (event ∷ h) = event.key ∷ filter (λ key. not (item_eq event.key key)) (keys_of h)

-- a sum over the objects of the scope: for the whole over those that have an event
abbrev pub sum_over : List Event → Scope → (Item → ℕ) → ℕ
sum_over h (Object key) f = f key
sum_over h Whole f = sum_by f (keys_of h)

-- how many steps are left for the objects of the scope, with all events
abbrev pub left_in : List Event → Scope → (Item → Mark) → ℕ
left_in h scope marks = sum_over h scope (λ key. left (marks key) (length (part key h)))

-- and how many more there may be, where witnesses couldn't go on
abbrev pub for_stops : List Event → Scope → (Item → Mark) → (Item → Mark) → ℕ
for_stops h scope old new = sum_over h scope (λ key. for_stop (old key) (new key) (length (part key h)))

-- how many events are due to the engines beside their frontiers
abbrev pub due_in : List Event → Scope → (Item → Mark) → ℕ
due_in h scope marks = sum_over h scope (λ key. length (part key h) - (marks key).beside)

-- the bound on work: what was spent and what is left are no more than what was left before
abbrev pub IsSpentIn : List Event → Scope → (Item → Mark) → (Item → Mark) → ℕ → ℕ → Type 0
IsSpentIn h scope old new before after = after + left_in h scope new ≤ before + left_in h scope old + for_stops h scope old new

-- and where it was broken off
abbrev pub IsSpentAtMostIn : List Event → Scope → (Item → Mark) → (Item → Mark) → ℕ → ℕ → Type 0
IsSpentAtMostIn h scope old new before after = after ≤ before + left_in h scope old + for_stops h scope old new
