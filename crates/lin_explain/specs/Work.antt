-- What an explanation counts.
use Rattle.std.specs.Prelude.{◌+◌, ◌-◌, ◌*◌, ℕ, List, Option, None, Some, length, slice_get, take}
use Rattle.lin_events.specs.declared.events.Event.{Event}
use Rattle.lin_order.specs.Parts.{part}
use Rattle.lin_answers.specs.Edits.{Present}
use Rattle.lin_answers.specs.declared.answers.Answer.{Answer}
use Rattle.lin_answers.specs.declared.answers.Answer.TheVariants.{IllFormed, Yes, No, Undecided}

-- how many of the events are of the object of this one
abbrev pub own_count : Option Event → List Event → ℕ
own_count None h = 0
own_count (Some event) h = length (part event.key h)

-- how many events an explanation of the answer looks at, each as often as it does: of a no without those that it takes in to tell what was possible
abbrev pub least_steps : Present → Answer → ℕ
least_steps now (IllFormed at cause) = at
least_steps now (Yes order) = 10 * length now.history
least_steps now (No n) = n + 4 * own_count (slice_get now.history (n - 1)) (take n now.history)
least_steps now (Undecided at) = (at + 1) + 4 * own_count (slice_get now.history at) (take (at + 1) now.history)

-- it makes no more than so many passes through the whole history
abbrev pub most_passes : Answer → ℕ
most_passes (IllFormed at cause) = 1
most_passes (Yes order) = 10
most_passes (No n) = 7
most_passes (Undecided at) = 6
