-- The lines that tell a certificate, form by form.
use Rattle.std.specs.Prelude.{ℕ, List, [], ◌++◌, Option, Some, None, codes, decimal, if◌then◌else◌, length, nat_eq, slice_get}
use Rattle.std.specs.List.{flat_map}
use Rattle.lin_events.specs.declared.items.Item.{Item}
use Rattle.lin_events.specs.declared.calls.Name.{Name}
use Rattle.lin_events.specs.declared.calls.Name.TheVariants as Named
use Rattle.lin_events.specs.declared.calls.Reply.{Reply}
use Rattle.lin_events.specs.declared.calls.Reply.TheVariants.{Done, Value, Members}
use Rattle.lin_events.specs.declared.calls.Val.{Val}
use Rattle.lin_events.specs.declared.calls.Val.TheVariants.{Nil, Item as Held}
use Rattle.lin_tables.specs.Operations.{name_text}
use Rattle.lin_tables.specs.Values.{short_item_text, value_text}
use Rattle.lin_certificate_lines.specs.Series.{behind_failed, fact_text, failures_text, sides_text, times_text}
use Rattle.lin_certificate_lines.specs.Telling.{call_in, called_text, end_spot, had_text, in_turn_text, is_acquire, reply_at, returned_text}
use Rattle.lin_certificate_lines.specs.declared.told.ObjectEvents.{ObjectEvents}
use Rattle.lin_certificate_lines.specs.declared.told.Verb.TheVariants.{Returned}

abbrev pub value_why : ObjectEvents → Val → List ℕ
value_why told v = codes "why: a read of a set gives members, not " ++ value_text told.names.now v ++ codes "\n"

abbrev pub members_why : List ℕ
members_why = codes "why: a read of a register gives one value, not members\n"

-- what a read gave that can't be: a value of a set, or members of a register
abbrev pub reply_why : ObjectEvents → Reply → List ℕ
reply_why told Done = []
reply_why told (Value v) = value_why told v
reply_why told (Members xs) = members_why

abbrev pub shape_why : ObjectEvents → Option Reply → List ℕ
shape_why told None = []
shape_why told (Some reply) = reply_why told reply

abbrev pub shape_text : ObjectEvents → ℕ → List ℕ
shape_text told read = shape_why told (reply_at told read) ++ fact_text told Returned read

-- nothing leaves the item that the operation needs
abbrev pub unwritten_text : ObjectEvents → ℕ → Item → List ℕ → List ℕ
unwritten_text told at n failed = codes "why: nothing leaves " ++ short_item_text told.names.now n ++ codes "\n" ++ fact_text told Returned at
    ++ failures_text told (codes "  no other operation leaves it\n") failed

-- nothing adds the item that the read has
abbrev pub unadded_text : ObjectEvents → ℕ → Item → List ℕ → List ℕ
unadded_text told at n failed = codes "why: nothing adds " ++ short_item_text told.names.now n ++ codes "\n" ++ fact_text told Returned at
    ++ failures_text told (codes "  no operation adds it\n") failed

-- an operation that leaves the value, and one behind it that leaves some value
abbrev pub pair_text : ObjectEvents → ℕ × ℕ → List ℕ
pair_text told pair = codes "  " ++ in_turn_text told pair.0 pair.1 ++ codes " and returned at " ++ end_spot told pair.1 ++ codes "\n"

-- where the value is the one that the register begins with, an operation that left some value
abbrev pub first_over_text : ObjectEvents → Option ℕ → List ℕ
first_over_text told None = []
first_over_text told (Some over) = fact_text told Returned over

abbrev pub updates_count_text : ObjectEvents → Val → ℕ → List ℕ
updates_count_text told v more = codes "  and so were " ++ decimal more ++ codes " more updates that leave " ++ value_text told.names.now v ++ codes "\n"

abbrev pub more_updates_text : ObjectEvents → Val → ℕ → List ℕ
more_updates_text told v more = if nat_eq more 0 then [] else updates_count_text told v more

abbrev pub overwritten_why : ObjectEvents → ℕ → Val → List ℕ
overwritten_why told at v = codes "why: " ++ value_text told.names.now v ++ codes " was overwritten before " ++ called_text told at ++ codes "\n"

abbrev pub overwritten_text : ObjectEvents → ℕ → Val → Option ℕ → List (ℕ × ℕ) → ℕ → List ℕ
overwritten_text told at v first pairs more = overwritten_why told at v ++ first_over_text told first ++ flat_map (pair_text told) pairs ++ more_updates_text told v more

-- what the operation needs was overwritten before it, since another one shows another value
abbrev pub stale_text : ObjectEvents → ℕ → Val → ℕ → Val → List ℕ
stale_text told at v over w = overwritten_why told at v ++ codes "  " ++ value_text told.names.now w ++ codes " was held: " ++ returned_text told over ++ codes "\n"

-- the one value was held before the other
abbrev pub held_text : ObjectEvents → Val → Val → ℕ × ℕ → List ℕ
held_text told v w pair = codes "  " ++ value_text told.names.now v ++ codes " before " ++ value_text told.names.now w ++ codes ": " ++ in_turn_text told pair.0 pair.1 ++ codes "\n"

-- each value is left once, or the first is the one that the register begins with
abbrev pub crossed_back_text : ObjectEvents → Val → Val → Option (ℕ × ℕ) → List ℕ
crossed_back_text told v w None = codes ", nil is the beginning and nothing leaves it\n"
crossed_back_text told v w (Some pair) = codes ", each left by one operation\n" ++ held_text told v w pair

abbrev pub crossed_text : ObjectEvents → Val → Val → ℕ × ℕ → Option (ℕ × ℕ) → List ℕ
crossed_text told v w pair back = codes "why: crossed values " ++ value_text told.names.now v ++ codes " and " ++ value_text told.names.now w
    ++ crossed_back_text told v w back ++ held_text told w v pair

-- the item was taken out oftener than it was put in
abbrev pub taken_text : ObjectEvents → Item → List ℕ → List ℕ → List ℕ → List ℕ
taken_text told n done may failed = codes "why: " ++ short_item_text told.names.now n ++ codes " was taken out " ++ times_text (length done)
    ++ codes " and put in at most " ++ times_text (length may) ++ codes "\n" ++ sides_text told done may failed ++ behind_failed [] failed

-- the one returned before the other was called
abbrev pub turn_text : ObjectEvents → List ℕ → ℕ → ℕ → List ℕ
turn_text told head first second = head ++ in_turn_text told first second ++ codes "\n"

-- the item was taken out only after the dequeue, or not at all
abbrev pub not_taken_out_text : ObjectEvents → ℕ → Item → List ℕ
not_taken_out_text told dequeue n = codes "  taken out: " ++ returned_text told dequeue ++ codes ", and nothing that may have taken "
    ++ short_item_text told.names.now n ++ codes " out was called before\n"

abbrev pub taken_out_text : ObjectEvents → ℕ → Item → Option ℕ → List ℕ
taken_out_text told dequeue n None = not_taken_out_text told dequeue n
taken_out_text told dequeue n (Some taker) = turn_text told (codes "  taken out: ") dequeue taker

-- the other item passed the item
abbrev pub passed_why : ObjectEvents → Item → Item → List ℕ
passed_why told n other = codes "why: " ++ short_item_text told.names.now other ++ codes " passed " ++ short_item_text told.names.now n ++ codes "\n"

abbrev pub passed_text : ObjectEvents → ℕ × ℕ → ℕ → Item → Item → Option ℕ → List ℕ
passed_text told puts dequeue n other taker = passed_why told n other ++ turn_text told (codes "  put in: ") puts.0 puts.1 ++ taken_out_text told dequeue n taker

-- the item was in the queue, and the dequeue found nothing
abbrev pub inside_text : ObjectEvents → ℕ → ℕ → Item → List ℕ
inside_text told enqueue dequeue n = codes "why: " ++ short_item_text told.names.now n ++ codes " was in the queue\n"
    ++ turn_text told (codes "  put in: ") enqueue dequeue
    ++ codes "  taken out: nothing that may have taken " ++ short_item_text told.names.now n ++ codes " out was called before " ++ returned_text told dequeue ++ codes "\n"

-- the set had the item before the operation was called
abbrev pub in_before_text : ObjectEvents → ℕ → Item → ℕ → List ℕ
in_before_text told earlier n later = codes "  in: " ++ had_text told earlier n ++ codes ", " ++ called_text told later ++ codes "\n"

-- the read found the one item and lacks the other
abbrev pub found_text : ObjectEvents → ℕ → Item → Item → List ℕ
found_text told read n other = codes "  " ++ returned_text told read ++ codes " with " ++ short_item_text told.names.now n ++ codes " and without " ++ short_item_text told.names.now other ++ codes "\n"

abbrev pub lost_text : ObjectEvents → ℕ → ℕ → Item → List ℕ
lost_text told earlier read n = codes "why: " ++ short_item_text told.names.now n ++ codes " was lost\n" ++ in_before_text told earlier n read
    ++ codes "  " ++ returned_text told read ++ codes " without " ++ short_item_text told.names.now n ++ codes "\n"

abbrev pub split_text : ObjectEvents → ℕ × ℕ → Item → Item → List ℕ
split_text told reads n other = codes "why: two reads exclude each other\n" ++ found_text told reads.0 n other ++ found_text told reads.1 other n

abbrev pub late_text : ObjectEvents → ℕ × ℕ → ℕ → Item → Item → List ℕ
late_text told before read n other = codes "why: " ++ short_item_text told.names.now n ++ codes " was in before " ++ short_item_text told.names.now other ++ codes " was added\n"
    ++ in_before_text told before.0 n before.1 ++ found_text told read other n

-- a lock's call in the past
abbrev pub past_text : Name → List ℕ
past_text name = name_text name ++ codes "d"

-- the lock was acquired twice and not released between, or the other way round
abbrev pub twice_by_text : ObjectEvents → Name → Name → ℕ → ℕ → List ℕ
twice_by_text told over under first second = codes "why: " ++ past_text over ++ codes " twice\n" ++ turn_text told (codes "  ") first second
    ++ codes "  no " ++ name_text under ++ codes " can stand between: each that didn't fail had returned before " ++ called_text told first ++ codes "\n"

abbrev pub twice_text : ObjectEvents → ℕ → ℕ → List ℕ
twice_text told first second = if is_acquire (call_in (slice_get told.events.now first)) then twice_by_text told Named.Acquire Named.Release first second
    else twice_by_text told Named.Release Named.Acquire first second

-- the lock was acquired too often, or released too often
abbrev pub counted_text : ObjectEvents → Name → Name → List ℕ → List ℕ → List ℕ → List ℕ
counted_text told over under done may failed = codes "why: " ++ past_text over ++ codes " " ++ times_text (length done)
    ++ codes " and " ++ past_text under ++ codes " at most " ++ times_text (length may) ++ codes "\n" ++ sides_text told done may failed

-- a register begins with nil
abbrev pub beside_text : Val → List ℕ
beside_text Nil = codes ", beside the beginning\n"
beside_text (Held n) = codes "\n"

-- the register was taken from the value to another one oftener than it came to it
abbrev pub spent_why : ObjectEvents → Val → List ℕ → List ℕ → List ℕ
spent_why told v done may = codes "why: a cas from " ++ value_text told.names.now v ++ codes " to another value was ok " ++ times_text (length done)
    ++ codes ", and " ++ value_text told.names.now v ++ codes " was left at most " ++ times_text (length may) ++ beside_text v

abbrev pub spent_text : ObjectEvents → Val → List ℕ → List ℕ → List ℕ → List ℕ
spent_text told v done may failed = spent_why told v done may ++ sides_text told done may failed
