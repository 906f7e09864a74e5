-- The value that an element stands for.
use Rattle.lin_edn.specs.Value.{Value, nil, bool, int, atom, keyword, text, list, vector, set, map, tagged, values_of, entries_of}
use Rattle.lin_edn.specs.declared.Edn.{Edn}
use Rattle.lin_edn.specs.declared.Entry.{Entry}
use Rattle.lin_edn.specs.declared.Edn.TheOpen.{Edn-F, Entry-F}
use Rattle.lin_edn.specs.declared.Edn.TheFolds.{fold-Edn, fold-Entry}

-- one level of an element, with what is inside already seen
abbrev pub edn_step : Edn-F Value (Value × Value) → Value
edn_step Edn-F.Nil = nil
edn_step (Edn-F.Bool b) = bool b
edn_step (Edn-F.Int i) = int i
edn_step (Edn-F.Atom s) = atom s.at s.text.now
edn_step (Edn-F.Keyword s) = keyword s.at s.text.now
edn_step (Edn-F.Text s) = text s.at s.text.now
edn_step (Edn-F.List v) = list (values_of v.items)
edn_step (Edn-F.Vector v) = vector (values_of v.items)
edn_step (Edn-F.Set v) = set (values_of v.items)
edn_step (Edn-F.Map v) = map (entries_of v.items)
edn_step (Edn-F.Tagged s b) = tagged s.at s.text.now b.value

-- one entry, with its key and value already seen
abbrev pub entry_step : Entry-F Value (Value × Value) → Value × Value
entry_step e = (e.key, e.value)

-- the value of an element
abbrev pub view : Edn → Value
view = fold-Edn Value (Value × Value) edn_step entry_step

-- the values of an entry's key and value
abbrev pub entry_view : Entry → Value × Value
entry_view = fold-Entry Value (Value × Value) edn_step entry_step
