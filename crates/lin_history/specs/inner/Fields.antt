-- What the code's search over a map's entries has found: cited by the contracts of private functions alone.
use Rattle.std.specs.Prelude.{◌≡◌, Bool, true, false, ◌||◌, List, [], ◌∷◌, ◌++◌, Option, Some, None, option_map, option_and_then, Result, Ok, Err, codes}
use Rattle.std.specs.Borrow.{Bor}
use Rattle.lin_edn.specs.declared.Edn.{Edn}
use Rattle.lin_edn.specs.View.{view}
use Rattle.lin_edn.specs.Value.{Value, Entries, nil, bool, int, keyword}
use Rattle.lin_names.specs.Names.{Numbering}
use Rattle.lin_names.specs.Spelled as said
use Rattle.lin_names.specs.Spelled.{Spelled, numbered, seen}
use Rattle.lin_history.specs.Table.{is_several, said_of, pair_of, here, under}
use Rattle.lin_events.specs.declared.calls.Val.{Val}
use Rattle.lin_events.specs.declared.calls.Val.TheVariants.{Nil, Item as Held}
use Rattle.lin_history.specs.declared.table.Fields.{Fields}
use Rattle.lin_history.specs.declared.table.Plain.{Plain}
use Rattle.lin_history.specs.declared.table.Plain.TheVariants as plain
use Rattle.lin_history.specs.declared.table.Given.{Given}
use Rattle.lin_history.specs.declared.table.Given.TheVariants as given
use Rattle.lin_history.specs.declared.table.EventFault.{EventFault}
use Rattle.lin_history.specs.declared.table.EventFault.TheVariants.{DuplicateKey, BadValue, OutOfMemory}

-- nil, or the item that is said
abbrev pub plain_view : Plain → Option Spelled
plain_view plain.Nil = None
plain_view (plain.Item s) = Some (seen s)

-- what a value says that is nil or an item
abbrev pub plain_of : Value → Option (Option Spelled)
plain_of nil = Some None
plain_of v = option_map Some (said_of v)

-- the same with words by their numbers
abbrev pub val_in : Numbering → Option Spelled → Val
val_in of None = Nil
val_in of (Some s) = Held (numbered of s)

-- of a vector or list of two values that are nil or items
abbrev pub both_plain : Value → Option (Option Spelled × Option Spelled)
both_plain v = option_and_then (λ p. option_and_then (λ old. option_map (λ new. (old, new)) (plain_of p.1)) (plain_of p.0)) (pair_of v)

-- a word, whose number takes memory
abbrev pub is_word_said : Spelled → Bool
is_word_said (said.number i) = false
is_word_said (said.truth b) = false
is_word_said (said.word w) = true

abbrev pub is_word_plain : Option Spelled → Bool
is_word_plain None = false
is_word_plain (Some s) = is_word_said s

-- a value that says this item
abbrev pub item_value : Spelled → Value
item_value (said.number i) = int i
item_value (said.truth b) = bool b
item_value (said.word w) = keyword 0 w

-- a value that says nil or this item
abbrev pub value_of : Option Spelled → Value
value_of None = nil
value_of (Some s) = item_value s

-- the value of an operation; a word as a keyword, which is read as each that says it
abbrev pub given_view : Given → Value
given_view (given.Plain p) = value_of (plain_view p)
given_view (given.Element e) = view e.now

-- the value that was found, if any
abbrev pub found : Option (Bor Edn) → List Value
found None = []
found (Some e) = view e.now ∷ []

-- a value is kept where there was none
abbrev pub IsPut : Option (Bor Edn) → Value → Option (Bor Edn) → Result (Unit {0}) EventFault → Type 0
IsPut old v new (Ok u) = (old ≡ None) × (found new ≡ v ∷ [])
IsPut old v new (Err f) = (f ≡ DuplicateKey) × (is_several (found old ++ v ∷ []) ≡ true)

-- what is made of a value, or why nothing is: there is nothing to be made, or want of memory for what takes it
abbrev pub IsMade : {A : Type 0} → (A → Bool) → Option A → Result A EventFault → Type 0
IsMade takes wanted (Ok x) = wanted ≡ Some x
IsMade takes wanted (Err BadValue) = wanted ≡ None
IsMade {A} takes wanted (Err OutOfMemory) = (x : A) × (wanted ≡ Some x) × (takes x ≡ true)
IsMade takes wanted (Err _) = ⊥

-- an entry is kept under its key, if it is one that counts and stood nowhere before
abbrev pub IsKept : Fields → Value × Value → Fields → Result (Unit {0}) EventFault → Type 0
IsKept old e new (Ok _) =
    (found new.process ≡ found old.process ++ here (codes ":process") e.0 e.1) ×
    (found new.event_type ≡ found old.event_type ++ here (codes ":type") e.0 e.1) ×
    (found new.function ≡ found old.function ++ here (codes ":f") e.0 e.1) ×
    (found new.value ≡ found old.value ++ here (codes ":value") e.0 e.1)
IsKept old e new (Err f) = (f ≡ DuplicateKey) × ((is_several (found old.process ++ here (codes ":process") e.0 e.1)
    || is_several (found old.event_type ++ here (codes ":type") e.0 e.1)
    || is_several (found old.function ++ here (codes ":f") e.0 e.1)
    || is_several (found old.value ++ here (codes ":value") e.0 e.1)) ≡ true)

-- the values under the four keys of a map, each once at most
abbrev pub IsFields : Entries → Result Fields EventFault → Type 0
IsFields es (Ok new) =
    (under (codes ":process") es ≡ found new.process) × (under (codes ":type") es ≡ found new.event_type) ×
    (under (codes ":f") es ≡ found new.function) × (under (codes ":value") es ≡ found new.value)
IsFields es (Err f) = (f ≡ DuplicateKey) × ((is_several (under (codes ":process") es) || is_several (under (codes ":type") es)
    || is_several (under (codes ":f") es) || is_several (under (codes ":value") es)) ≡ true)
