-- How the operations of one object are told: in words, and where in the whole history they were called, returned or failed.
use Rattle.std.specs.Prelude.{ℕ, Bool, true, false, List, [], ◌++◌, Option, Some, None, codes, if◌then◌else◌, option_map, slice_get, unwrap_or}
use Rattle.lin_events.specs.declared.items.Item.{Item}
use Rattle.lin_events.specs.declared.calls.Call.{Call}
use Rattle.lin_events.specs.declared.calls.Call.TheVariants.{Read, Acquire}
use Rattle.lin_events.specs.declared.calls.Reply.{Reply}
use Rattle.lin_events.specs.declared.calls.Reply.TheVariants as Replied
use Rattle.lin_events.specs.declared.events.Body.{Body}
use Rattle.lin_events.specs.declared.events.Body.TheVariants.{Invoke, Ok}
use Rattle.lin_events.specs.declared.events.Event.{Event}
use Rattle.lin_tables.specs.Operations.{operation_text}
use Rattle.lin_tables.specs.Spots.{spot_text}
use Rattle.lin_tables.specs.Values.{short_item_text}
use Rattle.lin_certificate_lines.specs.declared.told.ObjectEvents.{ObjectEvents}
use Rattle.lin_certificate_lines.specs.declared.told.Verb.{Verb}
use Rattle.lin_certificate_lines.specs.declared.told.Verb.TheVariants.{Returned, Called, Failed}

-- where an event of the object stands in the whole history
abbrev pub position_of : ObjectEvents → ℕ → ℕ
position_of told at = unwrap_or (slice_get told.picks.now at) 0

abbrev pub spot_at : ObjectEvents → ℕ → List ℕ
spot_at told at = spot_text (option_map (λ p. p.now) told.places) (position_of told at)

-- the end of an operation, if there is one
abbrev pub listed_end : Option (Option ℕ) → Option ℕ
listed_end (Some end) = end
listed_end None = None

abbrev pub end_at : ObjectEvents → ℕ → Option ℕ
end_at told at = listed_end (slice_get told.ends.now at)

-- where it ended
abbrev pub end_spot : ObjectEvents → ℕ → List ℕ
end_spot told at = spot_at told (unwrap_or (end_at told at) 0)

-- what an ok event replies
abbrev pub reply_of_body : Body → Option Reply
reply_of_body (Ok name reply) = Some reply
reply_of_body _ = None

abbrev pub reply_in : Option Event → Option Reply
reply_in None = None
reply_in (Some event) = reply_of_body event.body

abbrev pub reply_behind_end : List Event → Option ℕ → Option Reply
reply_behind_end h None = None
reply_behind_end h (Some end) = reply_in (slice_get h end)

-- the reply of an operation, if it is ok
abbrev pub reply_at : ObjectEvents → ℕ → Option Reply
reply_at told at = reply_behind_end told.events.now (end_at told at)

-- members are left out
abbrev pub without_members : Option Reply → Option Reply
without_members None = None
without_members (Some Replied.Done) = Some Replied.Done
without_members (Some (Replied.Value v)) = Some (Replied.Value v)
without_members (Some (Replied.Members xs)) = None

-- what an event calls
abbrev pub call_of_body : Body → Option Call
call_of_body (Invoke call) = Some call
call_of_body _ = None

abbrev pub call_in : Option Event → Option Call
call_in None = None
call_in (Some event) = call_of_body event.body

abbrev pub is_read : Option Call → Bool
is_read (Some Read) = true
is_read _ = false

abbrev pub is_acquire : Option Call → Bool
is_acquire (Some Acquire) = true
is_acquire _ = false

-- the words of an operation that an event begins, with its reply
abbrev pub body_words : List (List ℕ) → ℕ → Body → Option Reply → List ℕ
body_words names process (Invoke call) reply = operation_text names process call reply
body_words names process _ reply = []

abbrev pub event_words : List (List ℕ) → Option Event → Option Reply → List ℕ
event_words names None reply = []
event_words names (Some event) reply = body_words names event.process event.body reply

-- the operation, with its reply where it is ok, but without members
abbrev pub op_text : ObjectEvents → ℕ → List ℕ
op_text told at = event_words told.names.now (slice_get told.events.now at) (without_members (reply_at told at))

abbrev pub returned_text : ObjectEvents → ℕ → List ℕ
returned_text told at = op_text told at ++ codes " returned at " ++ end_spot told at

abbrev pub called_text : ObjectEvents → ℕ → List ℕ
called_text told at = op_text told at ++ codes " was called at " ++ spot_at told at

abbrev pub failed_text : ObjectEvents → ℕ → List ℕ
failed_text told at = op_text told at ++ codes " failed at " ++ end_spot told at

abbrev pub did_text : ObjectEvents → Verb → ℕ → List ℕ
did_text told Returned at = returned_text told at
did_text told Called at = called_text told at
did_text told Failed at = failed_text told at

-- the one returned, and the other was called
abbrev pub in_turn_text : ObjectEvents → ℕ → ℕ → List ℕ
in_turn_text told first second = returned_text told first ++ codes ", " ++ called_text told second

-- the set had the item when the operation returned: a read tells it
abbrev pub item_behind : ObjectEvents → Bool → Item → List ℕ
item_behind told reads n = if reads then codes " with " ++ short_item_text told.names.now n else []

abbrev pub had_text : ObjectEvents → ℕ → Item → List ℕ
had_text told at n = op_text told at ++ item_behind told (is_read (call_in (slice_get told.events.now at))) n ++ codes " returned at " ++ end_spot told at
