-- What stands in front of a value: white or none, a run, and white.
use Rattle.std.specs.Prelude.{◌≡◌, ℕ, ◌+◌, ◌<◌, true, List, ◌++◌, ◌∷◌, [], drop, slice_index}
use Rattle.lin_bytes.specs.Bytes.{class, is_inside, is_stop}
use Rattle.lin_edn.specs.Grammar.{Row}
use Rattle.lin_edn.specs.Run.{run_value}
use Rattle.lin_edn.specs.Scans.{IsStopAt, is_dark}
use Rattle.lin_edn.specs.Value.{Value}

-- a run, and how many bytes it has with the white around it
pub record Between : Type 0 where
  pub run : List ℕ
  pub size : ℕ

-- sixteen bytes begin with white up to a place, a run up to another, and white up to a third
pub record IsSegment (w : List ℕ) (begun until end : ℕ) : Type 0 where
  pub white : IsStopAt is_dark w 0 16 begun
  pub some : begun < 16
  pub begins : is_inside (class (slice_index w begun)) ≡ true
  pub run : IsStopAt is_stop w (begun + 1) 16 until
  pub behind : IsStopAt is_dark w until 16 end
  pub apart : until < end

-- behind blanks and elements up to one place, this run comes next, with blanks around it up to another place
abbrev pub IsFront : List ℕ → ℕ → List ℕ → ℕ → Type 0
IsFront s from w until = (p : ℕ) × ((n o : ℕ) (t : List ℕ) (vs : List Value) → Row n o t vs from (drop from s) →
    Row n o t (vs ++ run_value p w ∷ []) until (drop until s))
