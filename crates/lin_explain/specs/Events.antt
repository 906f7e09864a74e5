-- The words of events with nothing left out: so machines are told them.
use Rattle.std.specs.Prelude.{ℕ, List, [], ◌++◌, codes}
use Rattle.lin_events.specs.declared.calls.Reply.{Reply}
use Rattle.lin_events.specs.declared.calls.Reply.TheVariants.{Done, Value, Members}
use Rattle.lin_events.specs.declared.events.Body.{Body}
use Rattle.lin_events.specs.declared.events.Body.TheVariants.{Invoke, Ok, Fail, Info}
use Rattle.lin_events.specs.declared.events.Event.{Event}
use Rattle.lin_possibilities.specs.Whole.{whole_reply}
use Rattle.lin_tables.specs.Operations.{call_worded, name_text, process_text}
use Rattle.lin_tables.specs.declared.spellings.Wording.TheVariants.{Whole}

module _ (names : List (List ℕ)) where
  -- a reply that says more than that the call was done, behind a space
  abbrev pub whole_behind : Reply → List ℕ
  whole_behind Done = []
  whole_behind (Value v) = codes " " ++ whole_reply names (Value v)
  whole_behind (Members xs) = codes " " ++ whole_reply names (Members xs)

  -- what an event says behind its process
  abbrev pub whole_body : Body → List ℕ
  whole_body (Invoke call) = codes " invoke " ++ call_worded Whole names call
  whole_body (Ok name reply) = codes " " ++ codes "ok" ++ codes " " ++ name_text name ++ whole_behind reply
  whole_body (Fail name) = codes " " ++ codes "fail" ++ codes " " ++ name_text name
  whole_body (Info name) = codes " " ++ codes "info" ++ codes " " ++ name_text name

  abbrev pub whole_event : Event → List ℕ
  whole_event event = process_text event.process ++ whole_body event.body
