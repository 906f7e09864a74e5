-- Events in few bytes: cited by the contracts of private functions alone.
use Rattle.std.specs.Prelude.{ℤ, Option, Some, None}
use Rattle.lin_edn.specs.Value.{Value, nil, int}
use Rattle.lin_names.specs.Spelled.{Spelled, number}
use Rattle.lin_events.specs.declared.calls.Call.TheVariants as call
use Rattle.lin_events.specs.declared.calls.Name.TheVariants as name
use Rattle.lin_events.specs.declared.calls.Reply.TheVariants as reply
use Rattle.lin_events.specs.declared.calls.Val.{Val}
use Rattle.lin_events.specs.declared.calls.Val.TheVariants as val
use Rattle.lin_events.specs.declared.items.Item.TheVariants as item
use Rattle.lin_events.specs.declared.events.Body.{Body}
use Rattle.lin_events.specs.declared.events.Body.TheVariants as body
use Rattle.lin_events.specs.declared.events.Event.{Event}
use Rattle.lin_history.specs.declared.small.Deed.{Deed}
use Rattle.lin_history.specs.declared.small.Deed.TheVariants as deed
use Rattle.lin_history.specs.declared.small.Small.{Small}
use Rattle.lin_history.specs.declared.usual.Taken.{Taken}

abbrev pub number_said : ℤ → Spelled
number_said i = number i

-- nil or a number, as a text spells it
abbrev pub number_value : Option ℤ → Value
number_value None = nil
number_value (Some i) = int i

-- and as an event holds it
abbrev pub small_val : Option ℤ → Val
small_val None = val.Nil
small_val (Some i) = val.Item (item.Int i)

abbrev pub small_body : Deed → Body
small_body deed.Read = body.Invoke call.Read
small_body (deed.Write v) = body.Invoke (call.Write (small_val v))
small_body (deed.Enqueue i) = body.Invoke (call.Enqueue (item.Int i))
small_body deed.Dequeue = body.Invoke call.Dequeue
small_body (deed.Add i) = body.Invoke (call.Add (item.Int i))
small_body deed.Acquire = body.Invoke call.Acquire
small_body deed.Release = body.Invoke call.Release
small_body (deed.Saw f v) = body.Ok f (reply.Value (small_val v))
small_body (deed.Did f) = body.Ok f reply.Done
small_body (deed.Failed f) = body.Fail f
small_body (deed.Unknown f) = body.Info f

abbrev pub small_event : Small → Event
small_event s = record { process = s.process; key = item.Int s.key; body = small_body s.deed }

-- the same as any usual map
abbrev pub small_taken : Small → Taken
small_taken s = record { event = Some (small_event s); used = s.used }
