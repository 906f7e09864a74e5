-- What an element tells does not depend on where it stands.
use Rattle.std.proofs.Common.{◌≡◌, ℕ, Bool, true, false, ◌||◌, if◌then◌else◌, List, [], ◌∷◌, ◌++◌, Option, Some, None, option_map, option_and_then, Result, Ok, Err, refl, sym, ap, ◌∙◌, codes, map as each}
use Rattle.std.proofs.lemmas.List.{map-append}
use Rattle.lin_edn.specs.Laws.{later, later_values, later_entries}
use Rattle.lin_edn.specs.Value.{Value, nil, bool, int, atom, keyword, text, list, vector, set, map, tagged, Values, no_values, value, Entries, no_entries, entry}
use Rattle.lin_lists.specs.Sets.{members_of}
use Rattle.lin_names.specs.Spelled.{Spelled, numbered}
use Rattle.lin_history.specs.Reading.{Reading}
use Rattle.lin_history.specs.Stream.{told, told_by, maps_in, before}
use Rattle.lin_history.specs.Table.{bare, is_word, here, under, look_up, type_words, type_of, function_words, function_of, process_of, said_of, item_of, val_of, both_of, pair_of, items_of, cas_of, call_of, members_in, seen, reply_of, body_of, parts_said, parts_of, or_fault, event_with, is_several, or_nil, is_by_keyword, event_when_there, event_under, event_in, event}
use Rattle.lin_events.specs.declared.calls.Call.TheVariants as call
use Rattle.lin_events.specs.Items.{item_cmp}
use Rattle.lin_events.specs.declared.calls.Name.{Name}
use Rattle.lin_events.specs.declared.items.Item.{Item}
use Rattle.lin_events.specs.declared.calls.Name.TheVariants.{Read, Write, Cas, Enqueue, Dequeue, Add, Acquire, Release}
use Rattle.lin_events.specs.declared.calls.Reply.TheVariants.{Value as Saw, Members}
use Rattle.lin_events.specs.declared.events.Body.TheVariants as body
use Rattle.lin_events.specs.declared.events.Event.{Event}
use Rattle.lin_history.specs.declared.table.EventFault.{EventFault}
use Rattle.lin_history.specs.declared.table.EventFault.TheVariants.{DuplicateKey, BadProcess, BadType, BadFunction, BadKey, BadValue}
use Rattle.lin_history.specs.declared.table.EventType.{EventType}
use Rattle.lin_history.specs.declared.table.EventType.TheVariants as types

-- values
bare_later : (n : ℕ) (v : Value) → bare (later n v) ≡ later n (bare v)
bare_later n nil = refl
bare_later n (bool b) = refl
bare_later n (int i) = refl
bare_later n (atom at w) = refl
bare_later n (keyword at w) = refl
bare_later n (text at w) = refl
bare_later n (list vs) = refl
bare_later n (vector vs) = refl
bare_later n (set vs) = refl
bare_later n (map es) = refl
bare_later n (tagged at w v) = bare_later n v

is_word_later : (n : ℕ) (w : List ℕ) (v : Value) → is_word w (later n v) ≡ is_word w v
is_word_later n x nil = refl
is_word_later n x (bool b) = refl
is_word_later n x (int i) = refl
is_word_later n x (atom at w) = refl
is_word_later n x (keyword at w) = refl
is_word_later n x (text at w) = refl
is_word_later n x (list vs) = refl
is_word_later n x (vector vs) = refl
is_word_later n x (set vs) = refl
is_word_later n x (map es) = refl
is_word_later n x (tagged at w v) = refl

look_up_later : {A : Type 0} (n : ℕ) (rows : List (List ℕ × A)) (v : Value) → look_up rows (later n v) ≡ look_up rows v
look_up_later n [] v = refl
look_up_later n (row ∷ rows) v =
    ap (λ b. if b then Some row.1 else look_up rows (later n v)) (is_word_later n row.0 v)
    ∙ ap (λ o. if is_word row.0 v then Some row.1 else o) (look_up_later n rows v)

process_later : (n : ℕ) (v : Value) → process_of (later n v) ≡ process_of v
process_later n nil = refl
process_later n (bool b) = refl
process_later n (int i) = refl
process_later n (atom at w) = refl
process_later n (keyword at w) = refl
process_later n (text at w) = refl
process_later n (list vs) = refl
process_later n (vector vs) = refl
process_later n (set vs) = refl
process_later n (map es) = refl
process_later n (tagged at w v) = refl

said_later : (n : ℕ) (v : Value) → said_of (later n v) ≡ said_of v
said_later n nil = refl
said_later n (bool b) = refl
said_later n (int i) = refl
said_later n (atom at w) = refl
said_later n (keyword at w) = refl
said_later n (text at w) = refl
said_later n (list vs) = refl
said_later n (vector vs) = refl
said_later n (set vs) = refl
said_later n (map es) = refl
said_later n (tagged at w v) = refl

item_later : (m : Reading) (n : ℕ) (v : Value) → item_of m (later n v) ≡ item_of m v
item_later m n v = ap (option_map (numbered m.number)) (said_later n v)

val_later : (m : Reading) (n : ℕ) (v : Value) → val_of m (later n v) ≡ val_of m v
val_later m n nil = refl
val_later m n (bool b) = refl
val_later m n (int i) = refl
val_later m n (atom at w) = refl
val_later m n (keyword at w) = refl
val_later m n (text at w) = refl
val_later m n (list vs) = refl
val_later m n (vector vs) = refl
val_later m n (set vs) = refl
val_later m n (map es) = refl
val_later m n (tagged at w v) = refl

-- two values
abbrev both_later : ℕ → Value × Value → Value × Value
both_later n p = (later n p.0, later n p.1)

two_later : (n : ℕ) (vs : Values) → both_of (later_values n vs) ≡ option_map (both_later n) (both_of vs)
two_later n no_values = refl
two_later n (value v no_values) = refl
two_later n (value v (value w no_values)) = ap (λ x. Some (x, bare (later n w))) (bare_later n v) ∙ ap (λ x. Some (later n (bare v), x)) (bare_later n w)
two_later n (value v (value w (value u us))) = refl

pair_later : (n : ℕ) (v : Value) → pair_of (later n v) ≡ option_map (both_later n) (pair_of v)
pair_later n nil = refl
pair_later n (bool b) = refl
pair_later n (int i) = refl
pair_later n (atom at w) = refl
pair_later n (keyword at w) = refl
pair_later n (text at w) = refl
pair_later n (list vs) = two_later n vs
pair_later n (vector vs) = two_later n vs
pair_later n (set vs) = refl
pair_later n (map es) = refl
pair_later n (tagged at w v) = refl

cas_later : (m : Reading) (n : ℕ) (p : Value × Value) → cas_of m (both_later n p) ≡ cas_of m p
cas_later m n p =
    ap (λ o. option_and_then (λ old. option_map (λ new. call.Cas old new) o) (val_of m (later n p.0))) (val_later m n p.1)
    ∙ ap (λ o. option_and_then (λ old. option_map (λ new. call.Cas old new) (val_of m p.1)) o) (val_later m n p.0)

cas_of_pair : (m : Reading) (n : ℕ) (o : Option (Value × Value)) → option_and_then (cas_of m) (option_map (both_later n) o) ≡ option_and_then (cas_of m) o
cas_of_pair m n None = refl
cas_of_pair m n (Some p) = cas_later m n p

items_later : (m : Reading) (n : ℕ) (vs : Values) → items_of m (later_values n vs) ≡ items_of m vs
items_later m n no_values = refl
items_later m n (value v vs) =
    ap (λ o. option_and_then (λ i. option_map (λ is. i ∷ is) (items_of m (later_values n vs))) o) (ap (item_of m) (bare_later n v) ∙ item_later m n (bare v))
    ∙ ap (λ o. option_and_then (λ i. option_map (λ is. i ∷ is) o) (item_of m (bare v))) (items_later m n vs)

-- calls and replies
call_later : (m : Reading) (n : ℕ) (f : Name) (v : Value) → call_of m f (later n v) ≡ call_of m f v
call_later m n Read v = refl
call_later m n Write v = ap (option_map call.Write) (val_later m n v)
call_later m n Cas v = ap (option_and_then (cas_of m)) (pair_later n v) ∙ cas_of_pair m n (pair_of v)
call_later m n Enqueue v = ap (option_map call.Enqueue) (item_later m n v)
call_later m n Dequeue v = refl
call_later m n Add v = ap (option_map call.Add) (item_later m n v)
call_later m n Acquire v = refl
call_later m n Release v = refl

members_later : (m : Reading) (n : ℕ) (vs : Values) → members_in m (later_values n vs) ≡ members_in m vs
members_later m n vs = ap (option_map (λ is. Members (members_of item_cmp is))) (items_later m n vs)

seen_later : (m : Reading) (n : ℕ) (v : Value) → seen m (later n v) ≡ seen m v
seen_later m n nil = refl
seen_later m n (bool b) = refl
seen_later m n (int i) = refl
seen_later m n (atom at w) = refl
seen_later m n (keyword at w) = refl
seen_later m n (text at w) = refl
seen_later m n (list vs) = members_later m n vs
seen_later m n (vector vs) = members_later m n vs
seen_later m n (set vs) = members_later m n vs
seen_later m n (map es) = refl
seen_later m n (tagged at w v) = refl

reply_later : (m : Reading) (n : ℕ) (f : Name) (v : Value) → reply_of m f (later n v) ≡ reply_of m f v
reply_later m n Read v = seen_later m n v
reply_later m n Write v = refl
reply_later m n Cas v = refl
reply_later m n Enqueue v = refl
reply_later m n Dequeue v = ap (option_map Saw) (val_later m n v)
reply_later m n Add v = refl
reply_later m n Acquire v = refl
reply_later m n Release v = refl

body_later : (m : Reading) (n : ℕ) (t : EventType) (f : Name) (v : Value) → body_of m t f (later n v) ≡ body_of m t f v
body_later m n types.Invoke f v = ap (option_map body.Invoke) (call_later m n f v)
body_later m n types.Ok f v = ap (option_map (body.Ok f)) (reply_later m n f v)
body_later m n types.Fail f v = refl
body_later m n types.Info f v = refl

-- the key and the value
abbrev part_later : {K : Type 0} → ℕ → K × Value → K × Value
part_later n p = (p.0, later n p.1)

key_later : (n : ℕ) (w : Value) (o : Option Spelled) → option_map (λ key. (key, later n w)) o ≡ option_map (part_later {K = Spelled} n) (option_map (λ key. (key, w)) o)
key_later n w None = refl
key_later n w (Some key) = refl

keyed_later : (n : ℕ) (o : Option (Value × Value)) →
    option_and_then (λ p. option_map (λ key. (key, p.1)) (said_of p.0)) (option_map (both_later n) o)
    ≡ option_map (part_later {K = Spelled} n) (option_and_then (λ p. option_map (λ key. (key, p.1)) (said_of p.0)) o)
keyed_later n None = refl
keyed_later n (Some p) = ap (option_map (λ key. (key, later n p.1))) (said_later n p.0) ∙ key_later n p.1 (said_of p.0)

said_parts_later : (n : ℕ) (keyed : Bool) (v : Value) → parts_said keyed (later n v) ≡ option_map (part_later {K = Spelled} n) (parts_said keyed v)
said_parts_later n true v = ap (option_and_then (λ p. option_map (λ key. (key, p.1)) (said_of p.0))) (pair_later n v) ∙ keyed_later n (pair_of v)
said_parts_later n false v = refl

numbered_later : (m : Reading) (n : ℕ) (o : Option (Spelled × Value)) →
    option_map (λ p. (numbered m.number p.0, p.1)) (option_map (part_later {K = Spelled} n) o)
    ≡ option_map (part_later {K = Item} n) (option_map (λ p. (numbered m.number p.0, p.1)) o)
numbered_later m n None = refl
numbered_later m n (Some p) = refl

parts_later : (n : ℕ) (m : Reading) (v : Value) → parts_of m (later n v) ≡ option_map (part_later {K = Item} n) (parts_of m v)
parts_later n m v = ap (option_map (λ p. (numbered m.number p.0, p.1))) (said_parts_later n m.keyed v) ∙ numbered_later m n (parts_said m.keyed v)

-- an event
abbrev last_part : Reading → ℕ → EventType → Name → Item × Value → Result (Option Event) EventFault
last_part m p t f parts = or_fault BadValue (body_of m t f parts.1) (λ b. Ok (Some (record { process = p; key = parts.0; body = b })))

last_later : (m : Reading) (n p : ℕ) (t : EventType) (f : Name) (o : Option (Item × Value)) →
    or_fault BadKey (option_map (part_later {K = Item} n) o) (last_part m p t f) ≡ or_fault BadKey o (last_part m p t f)
last_later m n p t f None = refl
last_later m n p t f (Some parts) = ap (λ o. or_fault BadValue o (λ b. Ok (Some (record { process = p; key = parts.0; body = b })))) (body_later m n t f parts.1)

abbrev behind_types : Reading → ℕ → EventType → Option Name → Option (Item × Value) → Result (Option Event) EventFault
behind_types m p t f parts = or_fault BadFunction f (λ g. or_fault BadKey parts (last_part m p t g))

types_later : (m : Reading) (n p : ℕ) (t : EventType) (f : Option Name) (o : Option (Item × Value)) → behind_types m p t f (option_map (part_later {K = Item} n) o) ≡ behind_types m p t f o
types_later m n p t None o = refl
types_later m n p t (Some f) o = last_later m n p t f o

abbrev of_parts : Reading → Option ℕ → Option EventType → Option Name → Option (Item × Value) → Result (Option Event) EventFault
of_parts m process type function parts = or_fault BadProcess process (λ p. or_fault BadType type (λ t. behind_types m p t function parts))

all_later : (m : Reading) (n : ℕ) (process : Option ℕ) (type : Option EventType) (f : Option Name) (o : Option (Item × Value)) →
    of_parts m process type f (option_map (part_later {K = Item} n) o) ≡ of_parts m process type f o
all_later m n None type f o = refl
all_later m n (Some p) None f o = refl
all_later m n (Some p) (Some t) f o = types_later m n p t f o

with_later : (n : ℕ) (m : Reading) (process type function v : Value) →
    event_with m (later n process) (later n type) (later n function) (later n v) ≡ event_with m process type function v
with_later n m process type function v =
    ap (λ x. of_parts m x (type_of (later n type)) (function_of (later n function)) (parts_of m (later n v))) (process_later n process)
    ∙ ap (λ x. of_parts m (process_of process) x (function_of (later n function)) (parts_of m (later n v))) (look_up_later n type_words type)
    ∙ ap (λ x. of_parts m (process_of process) (type_of type) x (parts_of m (later n v))) (look_up_later n function_words function)
    ∙ ap (of_parts m (process_of process) (type_of type) (function_of function)) (parts_later n m v)
    ∙ all_later m n (process_of process) (type_of type) (function_of function) (parts_of m v)

-- the values under the keys
here_if : (n : ℕ) (v : Value) (b : Bool) → (if b then later n v ∷ [] else []) ≡ each (later n) (if b then v ∷ [] else [])
here_if n v true = refl
here_if n v false = refl

here_later : (n : ℕ) (w : List ℕ) (k v : Value) → here w (later n k) (later n v) ≡ each (later n) (here w k v)
here_later n w k v =
    ap (λ b. if b then bare (later n v) ∷ [] else []) (is_word_later n w k)
    ∙ ap (λ x. if is_word w k then x ∷ [] else []) (bare_later n v) ∙ here_if n (bare v) (is_word w k)

under_later : (n : ℕ) (w : List ℕ) (es : Entries) → under w (later_entries n es) ≡ each (later n) (under w es)
under_later n w no_entries = refl
under_later n w (entry k v es) =
    ap (λ l. l ++ under w (later_entries n es)) (here_later n w k v) ∙ ap (λ l. each (later n) (here w k v) ++ l) (under_later n w es)
    ∙ sym (map-append (later n) (here w k v) (under w es))

several_later : (n : ℕ) (vs : List Value) → is_several (each (later n) vs) ≡ is_several vs
several_later n [] = refl
several_later n (v ∷ []) = refl
several_later n (v ∷ w ∷ vs) = refl

nil_later : (n : ℕ) (vs : List Value) → or_nil (each (later n) vs) ≡ later n (or_nil vs)
nil_later n [] = refl
nil_later n (v ∷ vs) = refl

first_named : (n : ℕ) (v : Value) (vs ws : List Value) → is_by_keyword (later n v ∷ vs) ≡ is_by_keyword (v ∷ ws)
first_named n nil us ws = refl
first_named n (bool b) us ws = refl
first_named n (int i) us ws = refl
first_named n (atom at w) us ws = refl
first_named n (keyword at w) us ws = refl
first_named n (text at w) us ws = refl
first_named n (list vs) us ws = refl
first_named n (vector vs) us ws = refl
first_named n (set vs) us ws = refl
first_named n (map es) us ws = refl
first_named n (tagged at w v) us ws = refl

named_later : (n : ℕ) (vs : List Value) → is_by_keyword (each (later n) vs) ≡ is_by_keyword vs
named_later n [] = refl
named_later n (v ∷ vs) = first_named n v (each (later n) vs) vs

there_later : (n : ℕ) (m : Reading) (process type function : List Value) (v : Value) →
    event_when_there m (each (later n) process) (each (later n) type) (each (later n) function) (later n v) ≡ event_when_there m process type function v
there_later n m [] type function v = refl
there_later n m (p ∷ ps) [] function v = refl
there_later n m (p ∷ ps) (t ∷ ts) [] v = refl
there_later n m (p ∷ ps) (t ∷ ts) (f ∷ fs) v = with_later n m p t f v

abbrev under_if : Bool → Bool → Result (Option Event) EventFault → Result (Option Event) EventFault
under_if several named e = if several then Err DuplicateKey else (if named then Ok None else e)

under_event : (n : ℕ) (m : Reading) (process type function v : List Value) →
    event_under m (each (later n) process) (each (later n) type) (each (later n) function) (each (later n) v) ≡ event_under m process type function v
under_event n m process type function v =
    ap (λ b. under_if b (is_by_keyword (each (later n) process)) (there (each (later n) process) (each (later n) type) (each (later n) function) (or_nil (each (later n) v)))) some_several
    ∙ ap (λ b. under_if several b (there (each (later n) process) (each (later n) type) (each (later n) function) (or_nil (each (later n) v)))) (named_later n process)
    ∙ ap (λ w. under_if several (is_by_keyword process) (there (each (later n) process) (each (later n) type) (each (later n) function) w)) (nil_later n v)
    ∙ ap (under_if several (is_by_keyword process)) (there_later n m process type function (or_nil v))
  where
    there : List Value → List Value → List Value → Value → Result (Option Event) EventFault
    there = event_when_there m

    several : Bool
    several = is_several process || is_several type || is_several function || is_several v

    some_several : (is_several (each (later n) process) || is_several (each (later n) type) || is_several (each (later n) function) || is_several (each (later n) v)) ≡ several
    some_several =
        ap (λ b. b || is_several (each (later n) type) || is_several (each (later n) function) || is_several (each (later n) v)) (several_later n process)
        ∙ ap (λ b. is_several process || b || is_several (each (later n) function) || is_several (each (later n) v)) (several_later n type)
        ∙ ap (λ b. is_several process || is_several type || b || is_several (each (later n) v)) (several_later n function)
        ∙ ap (λ b. is_several process || is_several type || is_several function || b) (several_later n v)

entries_event : (n : ℕ) (m : Reading) (es : Entries) → event_in m (map (later_entries n es)) ≡ event_in m (map es)
entries_event n m es =
    ap (λ x. event_under m x (under (codes ":type") (later_entries n es)) (under (codes ":f") (later_entries n es)) (under (codes ":value") (later_entries n es))) (under_later n (codes ":process") es)
    ∙ ap (λ x. event_under m (each (later n) (under (codes ":process") es)) x (under (codes ":f") (later_entries n es)) (under (codes ":value") (later_entries n es))) (under_later n (codes ":type") es)
    ∙ ap (λ x. event_under m (each (later n) (under (codes ":process") es)) (each (later n) (under (codes ":type") es)) x (under (codes ":value") (later_entries n es))) (under_later n (codes ":f") es)
    ∙ ap (event_under m (each (later n) (under (codes ":process") es)) (each (later n) (under (codes ":type") es)) (each (later n) (under (codes ":f") es))) (under_later n (codes ":value") es)
    ∙ under_event n m (under (codes ":process") es) (under (codes ":type") es) (under (codes ":f") es) (under (codes ":value") es)

in_later : (n : ℕ) (m : Reading) (v : Value) → event_in m (later n v) ≡ event_in m v
in_later n m nil = refl
in_later n m (bool b) = refl
in_later n m (int i) = refl
in_later n m (atom at w) = refl
in_later n m (keyword at w) = refl
in_later n m (text at w) = refl
in_later n m (list vs) = refl
in_later n m (vector vs) = refl
in_later n m (set vs) = refl
in_later n m (map es) = entries_event n m es
in_later n m (tagged at w v) = refl

event_later : (n : ℕ) (m : Reading) (v : Value) → event m (later n v) ≡ event m v
event_later n m v = ap (event_in m) (bare_later n v) ∙ in_later n m (bare v)

-- an element
told_by_later : (n : ℕ) (m : Reading) (vs : Values) → told_by m (later_values n vs) ≡ told_by m vs
told_by_later n m no_values = refl
told_by_later n m (value v vs) =
    ap (λ e. before e (told_by m (later_values n vs))) (event_later n m v) ∙ ap (before (event m v)) (told_by_later n m vs)

maps_later : (n : ℕ) (v : Value) → maps_in (later n v) ≡ later_values n (maps_in v)
maps_later n nil = refl
maps_later n (bool b) = refl
maps_later n (int i) = refl
maps_later n (atom at w) = refl
maps_later n (keyword at w) = refl
maps_later n (text at w) = refl
maps_later n (list vs) = refl
maps_later n (vector vs) = refl
maps_later n (set vs) = refl
maps_later n (map es) = refl
maps_later n (tagged at w v) = refl

pub told_later : (n : ℕ) (m : Reading) (v : Value) → told m (later n v) ≡ told m v
told_later n m v = ap (λ x. told_by m (maps_in x)) (bare_later n v) ∙ ap (told_by m) (maps_later n (bare v)) ∙ told_by_later n m (maps_in (bare v))
