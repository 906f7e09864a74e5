-- What the code holds open, as the machine's frames and turns: cited by the contracts of private functions alone.
use Rattle.std.specs.Prelude.{◌≡◌, ℕ, List, [], ◌∷◌, map as each, Option, Some, None, option_map, reverse}
use Rattle.lin_bytes.specs.Bytes.{Kind, a_list, a_vector, a_set, a_map}
use Rattle.lin_edn.specs.Value.{Value}
use Rattle.lin_edn.specs.View.{view, entry_view}
use Rattle.lin_edn.specs.Grammar.{Frame, frame, discarding, tagging}
use Rattle.lin_edn.specs.inner.Machine.{Turn, go, stop, between, complete}
use Rattle.lin_edn.specs.declared.levels.Frame.{Frame as CodeFrame}
use Rattle.lin_edn.specs.declared.levels.Frame.TheVariants.{Elements, Entries, Tag, Discard}
use Rattle.lin_edn.specs.declared.levels.Sequence.{Sequence}
use Rattle.lin_edn.specs.declared.levels.Sequence.TheVariants as sequence
use Rattle.lin_edn.specs.declared.levels.Fate.{Fate}
use Rattle.lin_edn.specs.declared.levels.Fate.TheVariants.{Inside, Alone}

abbrev pub kind_of : Sequence → Kind
kind_of sequence.List = a_list
kind_of sequence.Vector = a_vector
kind_of sequence.Set = a_set

-- pairs as the elements in reading order, with a key that waits for its value
abbrev pub flat : List (Value × Value) → Option Value → List Value
flat [] None = []
flat [] (Some k) = k ∷ []
flat (e ∷ es) o = e.0 ∷ e.1 ∷ flat es o

abbrev pub frame_view : CodeFrame → Frame
frame_view (Elements s at v) = frame (kind_of s) at (each view v.items)
frame_view (Entries at v k) = frame a_map at (flat (each entry_view v.items) (option_map view k))
frame_view (Tag at s) = tagging at s.at s.text.now
frame_view (Discard at) = discarding at

-- the open levels, the innermost first
abbrev pub frames_of : List CodeFrame → List Frame
frames_of fs = reverse (each frame_view fs)

-- what became of an element that ends before a place is the machine's turn
abbrev pub IsPlaced : Turn → ℕ → Fate → List Frame → Type 0
IsPlaced t used Inside st = t ≡ go st between
IsPlaced t used (Alone e from) st = t ≡ stop (complete (view e) from used)
