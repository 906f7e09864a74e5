-- The words of operations and events, as an explanation tells them.
use Rattle.std.specs.Prelude.{ℕ, List, [], ◌++◌, Option, Some, None, codes, decimal}
use Rattle.lin_events.specs.declared.calls.Call.{Call}
use Rattle.lin_events.specs.declared.calls.Call.TheVariants.{Read, Write, Cas, Enqueue, Dequeue, Add, Acquire, Release}
use Rattle.lin_events.specs.declared.calls.Name.{Name}
use Rattle.lin_events.specs.declared.calls.Name.TheVariants as Named
use Rattle.lin_events.specs.declared.calls.Reply.{Reply}
use Rattle.lin_events.specs.declared.calls.Reply.TheVariants.{Done, Value, Members}
use Rattle.lin_events.specs.declared.events.Body.{Body}
use Rattle.lin_events.specs.declared.events.Body.TheVariants.{Invoke, Ok, Fail, Info}
use Rattle.lin_events.specs.declared.events.Event.{Event}
use Rattle.lin_events.specs.Names.{name_of}
use Rattle.lin_tables.specs.Values.{item_worded, reply_worded, value_worded}
use Rattle.lin_tables.specs.declared.spellings.Wording.{Wording}
use Rattle.lin_tables.specs.declared.spellings.Wording.TheVariants.{Short}

abbrev pub name_text : Name → List ℕ
name_text Named.Read = codes "read"
name_text Named.Write = codes "write"
name_text Named.Cas = codes "cas"
name_text Named.Enqueue = codes "enqueue"
name_text Named.Dequeue = codes "dequeue"
name_text Named.Add = codes "add"
name_text Named.Acquire = codes "acquire"
name_text Named.Release = codes "release"

abbrev pub process_text : ℕ → List ℕ
process_text process = codes "p" ++ decimal process

module _ (wording : Wording) (names : List (List ℕ)) where
  -- what a call is given, each behind a space
  abbrev pub arguments_worded : Call → List ℕ
  arguments_worded Read = []
  arguments_worded (Write v) = codes " " ++ value_worded wording names v
  arguments_worded (Cas old new) = (codes " " ++ value_worded wording names old) ++ (codes " " ++ value_worded wording names new)
  arguments_worded (Enqueue i) = codes " " ++ item_worded wording names i
  arguments_worded Dequeue = []
  arguments_worded (Add i) = codes " " ++ item_worded wording names i
  arguments_worded Acquire = []
  arguments_worded Release = []

  abbrev pub call_worded : Call → List ℕ
  call_worded call = name_text (name_of call) ++ arguments_worded call

  -- a reply that says more than that the call was done, behind a space
  abbrev pub reply_behind : Reply → List ℕ
  reply_behind Done = []
  reply_behind (Value v) = codes " " ++ reply_worded wording names (Value v)
  reply_behind (Members xs) = codes " " ++ reply_worded wording names (Members xs)

  -- the operation of a process, with its reply if it has one
  abbrev pub operation_worded : ℕ → Call → Option Reply → List ℕ
  operation_worded process call None = process_text process ++ codes " " ++ call_worded call
  operation_worded process call (Some reply) = process_text process ++ codes " " ++ call_worded call ++ reply_behind reply

-- as lines tell them
module _ (names : List (List ℕ)) where
  abbrev pub call_text : Call → List ℕ
  call_text call = call_worded Short names call

  abbrev pub operation_text : ℕ → Call → Option Reply → List ℕ
  operation_text process call reply = operation_worded Short names process call reply

  -- what an event says behind its process
  abbrev pub body_text : Body → List ℕ
  body_text (Invoke call) = codes " invoke " ++ call_text call
  body_text (Ok name reply) = codes " " ++ codes "ok" ++ codes " " ++ name_text name ++ reply_behind Short names reply
  body_text (Fail name) = codes " " ++ codes "fail" ++ codes " " ++ name_text name
  body_text (Info name) = codes " " ++ codes "info" ++ codes " " ++ name_text name

  abbrev pub event_text : Event → List ℕ
  event_text event = process_text event.process ++ body_text event.body
