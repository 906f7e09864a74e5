-- The event that an operation map says. Tags are read over at the map, at the values of its four keys, and at the
-- parts of these values; at its keys they are not.
use Rattle.std.specs.Prelude.{◌≡◌, ℕ, pos, Bool, true, false, ◌||◌, if◌then◌else◌, List, [], ◌∷◌, ◌++◌, Option, Some, None, option_map, option_and_then, Result, Ok, Err, codes}
use Rattle.std.specs.Str.{bytes_eq}
use Rattle.std.specs.List.{list_any}
use Rattle.lin_bytes.specs.Bytes.{is_newline}
use Rattle.lin_edn.specs.Value.{Value, nil, bool, int, atom, keyword, text, list, vector, set, map, tagged, Values, no_values, value, Entries, no_entries, entry}
use Rattle.lin_lists.specs.Sets.{members_of}
use Rattle.lin_events.specs.Items.{item_cmp}
use Rattle.lin_events.specs.declared.items.Item.{Item}
use Rattle.lin_events.specs.declared.items.Item.TheVariants as item
use Rattle.lin_events.specs.declared.calls.Val.{Val}
use Rattle.lin_events.specs.declared.calls.Val.TheVariants.{Nil, Item as Held}
use Rattle.lin_events.specs.declared.calls.Name.{Name}
use Rattle.lin_events.specs.declared.calls.Name.TheVariants.{Read, Write, Cas, Enqueue, Dequeue, Add, Acquire, Release}
use Rattle.lin_events.specs.declared.calls.Call.{Call}
use Rattle.lin_events.specs.declared.calls.Call.TheVariants as call
use Rattle.lin_events.specs.declared.calls.Reply.{Reply}
use Rattle.lin_events.specs.declared.calls.Reply.TheVariants.{Done, Value as Saw, Members}
use Rattle.lin_events.specs.declared.events.Body.{Body}
use Rattle.lin_events.specs.declared.events.Body.TheVariants as body
use Rattle.lin_events.specs.declared.events.Event.{Event}
use Rattle.lin_names.specs.Spelled as said
use Rattle.lin_names.specs.Spelled.{Spelled, numbered}
use Rattle.lin_history.specs.Reading.{Reading}
use Rattle.lin_history.specs.declared.table.EventType.{EventType}
use Rattle.lin_history.specs.declared.table.EventType.TheVariants as types
use Rattle.lin_history.specs.declared.table.EventFault.{EventFault}
use Rattle.lin_history.specs.declared.table.EventFault.TheVariants.{NotAMap, DuplicateKey, Missing, BadProcess, BadType, BadFunction, BadKey, BadValue, OutOfMemory}

-- a value without the tags in front of it
abbrev pub bare : Value → Value
bare (tagged at tag v) = bare v
bare nil = nil
bare (bool b) = bool b
bare (int i) = int i
bare (atom at w) = atom at w
bare (keyword at w) = keyword at w
bare (text at w) = text at w
bare (list vs) = list vs
bare (vector vs) = vector vs
bare (set vs) = set vs
bare (map es) = map es

-- the value is this keyword
abbrev pub is_word : List ℕ → Value → Bool
is_word w (keyword at word) = bytes_eq word w
is_word w _ = false

-- the value of an entry, if its key is this keyword
abbrev pub here : List ℕ → Value → Value → List Value
here w k v = if is_word w k then bare v ∷ [] else []

-- the values under a keyword, in reading order
abbrev pub under : List ℕ → Entries → List Value
under w no_entries = []
under w (entry k v es) = here w k v ++ under w es

-- what a keyword stands for, by a list of rows
abbrev pub look_up : {A : Type 0} → List (List ℕ × A) → Value → Option A
look_up [] v = None
look_up (row ∷ rows) v = if is_word row.0 v then Some row.1 else look_up rows v

abbrev pub type_words : List (List ℕ × EventType)
type_words =
    (codes ":invoke", types.Invoke) ∷
    (codes ":ok", types.Ok) ∷
    (codes ":fail", types.Fail) ∷
    (codes ":info", types.Info) ∷ []

abbrev pub type_of : Value → Option EventType
type_of = look_up type_words

abbrev pub function_words : List (List ℕ × Name)
function_words =
    (codes ":read", Read) ∷
    (codes ":write", Write) ∷
    (codes ":cas", Cas) ∷
    (codes ":enqueue", Enqueue) ∷
    (codes ":dequeue", Dequeue) ∷
    (codes ":add", Add) ∷
    (codes ":acquire", Acquire) ∷
    (codes ":release", Release) ∷ []

abbrev pub function_of : Value → Option Name
function_of = look_up function_words

-- an integer of at least 0
abbrev pub process_of : Value → Option ℕ
process_of (int (pos n)) = Some n
process_of _ = None

-- the word that a string is, unless it holds the end of a line
abbrev pub word_of : List ℕ → Option Spelled
word_of w = if list_any is_newline w then None else Some (said.word w)

-- the item that a value says: an integer, a truth value, a keyword, or a string without the end of a line
abbrev pub said_of : Value → Option Spelled
said_of (int i) = Some (said.number i)
said_of (bool b) = Some (said.truth b)
said_of (keyword at w) = Some (said.word w)
said_of (text at w) = word_of w
said_of _ = None

abbrev pub item_of : Reading → Value → Option Item
item_of m v = option_map (numbered m.number) (said_of v)

-- nil or an item
abbrev pub val_of : Reading → Value → Option Val
val_of m nil = Some Nil
val_of m v = option_map Held (item_of m v)

-- exactly two values
abbrev pub both_of : Values → Option (Value × Value)
both_of (value v (value w no_values)) = Some (bare v, bare w)
both_of _ = None

-- a vector or list of exactly two
abbrev pub pair_of : Value → Option (Value × Value)
pair_of (vector vs) = both_of vs
pair_of (list vs) = both_of vs
pair_of _ = None

-- items alone
abbrev pub items_of : Reading → Values → Option (List Item)
items_of m no_values = Some []
items_of m (value v vs) = option_and_then (λ i. option_map (λ is. i ∷ is) (items_of m vs)) (item_of m (bare v))

-- the old and the new value of a compare-and-set
abbrev pub cas_of : Reading → Value × Value → Option Call
cas_of m p = option_and_then (λ old. option_map (λ new. call.Cas old new) (val_of m p.1)) (val_of m p.0)

-- what an invocation calls
abbrev pub call_of : Reading → Name → Value → Option Call
call_of m Read v = Some call.Read
call_of m Write v = option_map call.Write (val_of m v)
call_of m Cas v = option_and_then (cas_of m) (pair_of v)
call_of m Enqueue v = option_map call.Enqueue (item_of m v)
call_of m Dequeue v = Some call.Dequeue
call_of m Add v = option_map call.Add (item_of m v)
call_of m Acquire v = Some call.Acquire
call_of m Release v = Some call.Release

-- the items of a collection as the members of a set
abbrev pub members_in : Reading → Values → Option Reply
members_in m vs = option_map (λ is. Members (members_of item_cmp is)) (items_of m vs)

-- what a read saw
abbrev pub seen : Reading → Value → Option Reply
seen m (set vs) = members_in m vs
seen m (vector vs) = members_in m vs
seen m (list vs) = members_in m vs
seen m v = option_map Saw (val_of m v)

-- what an operation that took effect answered
abbrev pub reply_of : Reading → Name → Value → Option Reply
reply_of m Read v = seen m v
reply_of m Dequeue v = option_map Saw (val_of m v)
reply_of m _ v = Some Done

abbrev pub body_of : Reading → EventType → Name → Value → Option Body
body_of m types.Invoke f v = option_map body.Invoke (call_of m f v)
body_of m types.Ok f v = option_map (body.Ok f) (reply_of m f v)
body_of m types.Fail f v = Some (body.Fail f)
body_of m types.Info f v = Some (body.Info f)

-- the key of the object, as it is said, and the value: with keys those of a pair that begins with an item, without keys 0 and the whole
abbrev pub parts_said : Bool → Value → Option (Spelled × Value)
parts_said true v = option_and_then (λ p. option_map (λ key. (key, p.1)) (said_of p.0)) (pair_of v)
parts_said false v = Some (said.number (pos 0), v)

abbrev pub parts_of : Reading → Value → Option (Item × Value)
parts_of m v = option_map (λ p. (numbered m.number p.0, p.1)) (parts_said m.keyed v)

-- one test after another: what is none has its fault
abbrev pub or_fault : {A B : Type 0} → EventFault → Option A → (A → Result B EventFault) → Result B EventFault
or_fault fault None more = Err fault
or_fault fault (Some x) more = more x

-- the event of a map with these values under its keys
abbrev pub event_with : Reading → Value → Value → Value → Value → Result (Option Event) EventFault
event_with m process type function v =
    or_fault BadProcess (process_of process) (λ p.
    or_fault BadType (type_of type) (λ t.
    or_fault BadFunction (function_of function) (λ f.
    or_fault BadKey (parts_of m v) (λ parts.
    or_fault BadValue (body_of m t f parts.1) (λ b.
    Ok (Some (record { process = p; key = parts.0; body = b })))))))

abbrev pub is_several : List Value → Bool
is_several (v ∷ w ∷ vs) = true
is_several _ = false

-- the only value under a key; a missing one is nil
abbrev pub or_nil : List Value → Value
or_nil [] = nil
or_nil (v ∷ vs) = v

-- a process that a keyword names, as the nemesis: its operations are no events
abbrev pub is_by_keyword : List Value → Bool
is_by_keyword (keyword at w ∷ vs) = true
is_by_keyword _ = false

abbrev pub event_when_there : Reading → List Value → List Value → List Value → Value → Result (Option Event) EventFault
event_when_there m (process ∷ _) (type ∷ _) (function ∷ _) v = event_with m process type function v
event_when_there m _ _ _ v = Err Missing

abbrev pub event_under : Reading → List Value → List Value → List Value → List Value → Result (Option Event) EventFault
event_under m process type function v =
    if is_several process || is_several type || is_several function || is_several v then Err DuplicateKey else
    (if is_by_keyword process then Ok None else event_when_there m process type function (or_nil v))

abbrev pub event_in : Reading → Value → Result (Option Event) EventFault
event_in m (map es) = event_under m (under (codes ":process") es) (under (codes ":type") es) (under (codes ":f") es) (under (codes ":value") es)
event_in m _ = Err NotAMap

-- The event that an element says, none for an operation of the nemesis, or the first fault; with keys or without, and with these numbers of words.
abbrev pub event : Reading → Value → Result (Option Event) EventFault
event m v = event_in m (bare v)

-- what is read of a word or of a set of members takes memory
abbrev pub is_named : Item → Bool
is_named (item.Int i) = false
is_named (item.Bool b) = false
is_named (item.Word n) = true

abbrev pub val_takes : Val → Bool
val_takes Nil = false
val_takes (Held i) = is_named i

abbrev pub call_takes : Call → Bool
call_takes call.Read = false
call_takes (call.Write v) = val_takes v
call_takes (call.Cas old new) = val_takes old || val_takes new
call_takes (call.Enqueue i) = is_named i
call_takes call.Dequeue = false
call_takes (call.Add i) = is_named i
call_takes call.Acquire = false
call_takes call.Release = false

abbrev pub reply_takes : Reply → Bool
reply_takes Done = false
reply_takes (Saw v) = val_takes v
reply_takes (Members is) = true

abbrev pub body_takes : Body → Bool
body_takes (body.Invoke c) = call_takes c
body_takes (body.Ok f r) = reply_takes r
body_takes (body.Fail f) = false
body_takes (body.Info f) = false

abbrev pub takes_memory : Event → Bool
takes_memory e = body_takes e.body || is_named e.key

-- the table's answer, or want of memory in place of an event that takes memory
abbrev pub IsAnswer : Result (Option Event) EventFault → Result (Option Event) EventFault → Type 0
IsAnswer wanted (Ok e) = wanted ≡ Ok e
IsAnswer wanted (Err OutOfMemory) = (e : Event) × (wanted ≡ Ok (Some e)) × (takes_memory e ≡ true)
IsAnswer wanted (Err fault) = wanted ≡ Err fault
