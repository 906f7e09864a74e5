-- Where a string or keyword ends that stands alone, or among other bytes.
use Rattle.std.specs.Prelude.{ℕ, List, [], ◌∷◌, ◌++◌, drop}
use Rattle.lin_edn.specs.Grammar.{Element}
use Rattle.lin_edn.specs.Value.{Value, nil, bool, int, atom, keyword, text, list, vector, set, map, tagged}

-- a string or a keyword
abbrev pub IsWord : Value → Type 0
IsWord (keyword at w) = Unit {0}
IsWord (text at w) = Unit {0}
IsWord nil = ⊥
IsWord (bool b) = ⊥
IsWord (int i) = ⊥
IsWord (atom at w) = ⊥
IsWord (list vs) = ⊥
IsWord (vector vs) = ⊥
IsWord (set vs) = ⊥
IsWord (map es) = ⊥
IsWord (tagged at w v) = ⊥

-- from one place to another stands a string or a keyword; behind the last byte a space is thought, which finishes a keyword
abbrev pub IsItemEnd : List ℕ → ℕ → ℕ → Type 0
IsItemEnd s at end = (v : Value) × (t : List ℕ) × IsWord v × Element 64 at (drop at (s ++ 32 ∷ [])) v end t
