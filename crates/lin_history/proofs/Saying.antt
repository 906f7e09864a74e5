-- What values say, and what is made of it.
use Rattle.std.proofs.Common.{◌≡◌, Bool, true, ◌||◌, Option, Some, None, Err, option_map, option_and_then, refl, ap, ◌∙◌}
use Rattle.std.proofs.lemmas.Option.{none-some}
use Rattle.lin_edn.specs.Value.{Value, nil, bool, int, atom, keyword, text, list, vector, set, map, tagged}
use Rattle.lin_names.specs.Names.{Numbering}
use Rattle.lin_names.specs.Spelled as said
use Rattle.lin_names.specs.Spelled.{Spelled, numbered}
use Rattle.lin_events.specs.declared.calls.Call.{Call}
use Rattle.lin_events.specs.declared.calls.Call.TheVariants as call
use Rattle.lin_events.specs.declared.calls.Name.TheVariants.{Cas}
use Rattle.lin_events.specs.declared.calls.Val.TheVariants.{Item as Held}
use Rattle.lin_history.specs.Reading.{Reading}
use Rattle.lin_history.specs.Table.{bare, said_of, val_of, pair_of, cas_of, call_of, is_named, val_takes, call_takes}
use Rattle.lin_history.specs.inner.Fields.{plain_of, both_plain, val_in, item_value, value_of, is_word_said, is_word_plain, IsMade}
use Rattle.lin_history.specs.declared.table.EventFault.{EventFault}
use Rattle.lin_history.specs.declared.table.EventFault.TheVariants.{NotAMap, DuplicateKey, Missing, BadProcess, BadType, BadFunction, BadKey, BadValue, OutOfMemory}

-- the value of an item is without tags, and says it
pub item_bare : (key : Spelled) → bare (item_value key) ≡ item_value key
item_bare (said.number i) = refl
item_bare (said.truth b) = refl
item_bare (said.word w) = refl

pub item_back : (key : Spelled) → said_of (item_value key) ≡ Some key
item_back (said.number i) = refl
item_back (said.truth b) = refl
item_back (said.word w) = refl

pub plain_back : (o : Option Spelled) → plain_of (value_of o) ≡ Some o
plain_back None = refl
plain_back (Some (said.number i)) = refl
plain_back (Some (said.truth b)) = refl
plain_back (Some (said.word w)) = refl

-- what says an item says no less
pub said_plain : (v : Value) (key : Spelled) → said_of v ≡ Some key → plain_of v ≡ Some (Some key)
said_plain nil key h = absurd (none-some key h)
said_plain (bool b) key h = ap (option_map Some) h
said_plain (int i) key h = ap (option_map Some) h
said_plain (atom at w) key h = absurd (none-some key h)
said_plain (keyword at w) key h = ap (option_map Some) h
said_plain (text at w) key h = ap (option_map Some) h
said_plain (list vs) key h = absurd (none-some key h)
said_plain (vector vs) key h = absurd (none-some key h)
said_plain (set vs) key h = absurd (none-some key h)
said_plain (map es) key h = absurd (none-some key h)
said_plain (tagged at w v) key h = absurd (none-some key h)

-- nil or an item, by what is said
held : (of : Numbering) (o : Option Spelled) → option_map Held (option_map (numbered of) o) ≡ option_map (val_in of) (option_map Some o)
held of None = refl
held of (Some s) = refl

pub val_is : (m : Reading) (v : Value) → val_of m v ≡ option_map (val_in m.number) (plain_of v)
val_is m nil = refl
val_is m (bool b) = refl
val_is m (int i) = refl
val_is m (atom at w) = refl
val_is m (keyword at w) = refl
val_is m (text at w) = held m.number (said_of (text at w))
val_is m (list vs) = refl
val_is m (vector vs) = refl
val_is m (set vs) = refl
val_is m (map es) = refl
val_is m (tagged at w v) = refl

-- two values
abbrev pub cas_by : Numbering → Option Spelled × Option Spelled → Call
cas_by of p = call.Cas (val_in of p.0) (val_in of p.1)

cas_made : (of : Numbering) (a b : Option (Option Spelled)) →
    option_and_then (λ old. option_map (λ new. call.Cas old new) (option_map (val_in of) b)) (option_map (val_in of) a)
    ≡ option_map (cas_by of) (option_and_then (λ old. option_map (λ new. (old, new)) b) a)
cas_made of None b = refl
cas_made of (Some o) None = refl
cas_made of (Some o) (Some p) = refl

cas_pair : (m : Reading) (p : Value × Value) → cas_of m p ≡ option_map (cas_by m.number) (option_and_then (λ old. option_map (λ new. (old, new)) (plain_of p.1)) (plain_of p.0))
cas_pair m p =
    ap (λ o. option_and_then (λ old. option_map (λ new. call.Cas old new) o) (val_of m p.0)) (val_is m p.1)
    ∙ ap (λ o. option_and_then (λ old. option_map (λ new. call.Cas old new) (option_map (val_in m.number) (plain_of p.1))) o) (val_is m p.0)
    ∙ cas_made m.number (plain_of p.0) (plain_of p.1)

cas_of_pair : (m : Reading) (o : Option (Value × Value)) → option_and_then (cas_of m) o
    ≡ option_map (cas_by m.number) (option_and_then (λ p. option_and_then (λ old. option_map (λ new. (old, new)) (plain_of p.1)) (plain_of p.0)) o)
cas_of_pair m None = refl
cas_of_pair m (Some p) = cas_pair m p

pub cas_is : (m : Reading) (v : Value) → call_of m Cas v ≡ option_map (cas_by m.number) (both_plain v)
cas_is m v = cas_of_pair m (pair_of v)

-- what takes memory
pub item_takes : (of : Numbering) (s : Spelled) → is_word_said s ≡ true → is_named (numbered of s) ≡ true
item_takes of (said.number i) h = h
item_takes of (said.truth b) h = h
item_takes of (said.word w) h = h

pub plain_takes : (of : Numbering) (o : Option Spelled) → is_word_plain o ≡ true → val_takes (val_in of o) ≡ true
plain_takes of None h = h
plain_takes of (Some s) h = item_takes of s h

either_takes : (of : Numbering) (o : Option Spelled) (b c : Bool) → (is_word_plain o || b) ≡ true → (b ≡ true → c ≡ true) → (val_takes (val_in of o) || c) ≡ true
either_takes of None b c h more = more h
either_takes of (Some (said.number i)) b c h more = more h
either_takes of (Some (said.truth x)) b c h more = more h
either_takes of (Some (said.word w)) b c h more = refl

pub cas_takes : (of : Numbering) (old new : Option Spelled) → (is_word_plain old || is_word_plain new) ≡ true → call_takes (cas_by of (old, new)) ≡ true
cas_takes of old new h = either_takes of old (is_word_plain new) (val_takes (val_in of new)) h (plain_takes of new)

-- a fault stays where more is made of it
pub made_err : {A B : Type 0} (f : A → B) (takes : A → Bool) (more : B → Bool) (o : Option A) (e : EventFault) → ((x : A) → takes x ≡ true → more (f x) ≡ true) →
    IsMade takes o (Err e) → IsMade more (option_map f o) (Err e)
made_err f takes more o BadValue same h = ap (option_map f) h
made_err f takes more o OutOfMemory same h = (f h.0, ap (option_map f) h.1, same h.0 h.2)
made_err f takes more o NotAMap same h = absurd h
made_err f takes more o DuplicateKey same h = absurd h
made_err f takes more o Missing same h = absurd h
made_err f takes more o BadProcess same h = absurd h
made_err f takes more o BadType same h = absurd h
made_err f takes more o BadFunction same h = absurd h
made_err f takes more o BadKey same h = absurd h
