-- How many operations a history has, and how they ended: in a well-formed history each operation has one invocation and at most one end.
use Rattle.std.specs.Prelude.{◌-◌, ◌&&◌, ℕ, Bool, true, false, List, Option, Some, None, count_by}
use Rattle.lin_events.specs.declared.items.Item.{Item}
use Rattle.lin_events.specs.Items.{item_eq}
use Rattle.lin_events.specs.declared.events.Event.{Event}
use Rattle.lin_events.specs.declared.events.Body.{Body}
use Rattle.lin_events.specs.declared.events.Body.TheVariants as body
use Rattle.lin_explain.specs.declared.counts.Sort.{Sort}
use Rattle.lin_explain.specs.declared.counts.Sort.TheVariants.{Invoked, Ok, Failed, Crashed}

abbrev pub says : Sort → Body → Bool
says Invoked (body.Invoke call) = true
says Ok (body.Ok name reply) = true
says Failed (body.Fail name) = true
says Crashed (body.Info name) = true
says _ _ = false

-- the event is of the key, if one is asked for
abbrev pub is_within : Option Item → Event → Bool
is_within None event = true
is_within (Some key) event = item_eq event.key key

abbrev pub counts : Option Item → Sort → Event → Bool
counts key sort event = is_within key event && says sort event.body

-- how many events of the sort the history has, or the object of the key
abbrev pub count_in : Option Item → Sort → List Event → ℕ
count_in key sort h = count_by (counts key sort) h

-- neither ok nor failed
abbrev pub open_in : Option Item → List Event → ℕ
open_in key h = (count_in key Invoked h - count_in key Ok h) - count_in key Failed h
