-- The kinds that are given to keys. They are seen as a pair: the default kind, and the named keys with their kinds, in the keys' order.
use Rattle.std.specs.Prelude.{◌≡◌, ◌||◌, if◌then◌else◌, ℕ, Bool, [], length, is_some, unwrap_or}
use Rattle.std.specs.Map.{lookup}
use Rattle.std.specs.BTreeMap.{insert_entry}
use Rattle.lin_events.specs.declared.items.Item.{Item}
use Rattle.lin_events.specs.Items.{item_cmp, item_eq}
use Rattle.lin_events.specs.declared.calls.Name.{Name}
use Rattle.lin_objects.specs.declared.kinds.Kind.{Kind}
use Rattle.lin_objects.specs.declared.kinds.Kinds.{Kinds}
use Rattle.lin_objects.specs.Steps.{allows}

-- the kind of a key: its own where it is named, else the default
abbrev pub kind_of : Kinds → Item → Kind
kind_of kinds key = unwrap_or (lookup (item_eq key) kinds.1) kinds.0

-- whether the key is named
abbrev pub is_named : Kinds → Item → Bool
is_named kinds key = is_some (lookup (item_eq key) kinds.1)

-- how many keys are named
abbrev pub named_count : Kinds → ℕ
named_count kinds = length kinds.1

-- the kind for every key, none of which is named
abbrev pub same_for_all : Kind → Kinds
same_for_all kind = (kind, [])

-- the kinds with the key named, as of this kind
abbrev pub with_kind : Item → Kind → Kinds → Kinds
with_kind key kind kinds = (kinds.0, insert_entry item_cmp kinds.1 key kind)

-- naming a key changes its kind and no other key's
abbrev pub ChangesOneKind : Type 0
ChangesOneKind = (kinds : Kinds) (key x : Item) (kind : Kind) → kind_of (with_kind key kind kinds) x ≡ (if item_eq key x then kind else kind_of kinds x)

-- naming a key names it and no other key
abbrev pub NamesOneKey : Type 0
NamesOneKey = (kinds : Kinds) (key x : Item) (kind : Kind) → is_named (with_kind key kind kinds) x ≡ (item_eq key x || is_named kinds x)

-- the functions that the object of a key has
abbrev pub functions_of : (Item → Kind) → Item → Name → Bool
functions_of kinds key = allows (kinds key)
