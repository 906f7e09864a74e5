-- How far the machine is where a row of bytes ends, and what it finds behind tags.
use Rattle.std.specs.Prelude.{◌≡◌, ◌≢◌, ℕ, ◌≤◌, Bool, true, false, List, [], ◌∷◌, length, drop, Option, Some, None, Result, Ok, Err}
use Rattle.lin_edn.specs.Grammar.{Frame, tagging, longest}
use Rattle.lin_edn.specs.Value.{Value, tagged}
use Rattle.lin_edn.specs.inner.Machine.{complete, run, between}
use Rattle.lin_edn.specs.inner.Turns.{mode_of, IsBegun}
use Rattle.lin_edn.specs.View.{view}
use Rattle.lin_edn.specs.declared.Edn.{Edn}
use Rattle.lin_edn.specs.declared.EdnCause.TheVariants as cause
use Rattle.lin_edn.specs.declared.EdnFault.{EdnFault}
use Rattle.lin_edn.specs.declared.reader.Mode.{Mode as CodeMode}

-- the machine is no further along at a later place, with the same levels and what is open beside them
abbrev pub IsAhead : List ℕ → ℕ → ℕ → List Frame → CodeMode → Type 0
IsAhead s at r st m = (at ≤ r) × (r ≤ length s)
    × (run longest at st (mode_of s at m) (drop at s) ≡ run longest r st (mode_of s r m) (drop r s)) × IsBegun m r

-- tags that wait at the bottom, two or one
abbrev pub waiting : Bool → List Frame
waiting true = tagging 0 0 [] ∷ tagging 0 0 [] ∷ []
waiting false = tagging 0 0 [] ∷ []

-- a value behind as many tags
abbrev pub IsWrapped : Bool → Value → Value → Type 0
IsWrapped true v w = (i j : ℕ) × (a b : List ℕ) × (w ≡ tagged i a (tagged j b v))
IsWrapped false v w = (i : ℕ) × (a : List ℕ) × (w ≡ tagged i a v)

-- behind these the machine finds an element from a place up to another
abbrev pub IsBehindTags : Bool → List ℕ → ℕ → Value → ℕ → Type 0
IsBehindTags two s from v used = (w : Value) × (p : ℕ) × IsWrapped two v w × (run longest from (waiting two) between (drop from s) ≡ complete w p used)

-- it finds none
abbrev pub IsNoneBehindTags : Bool → List ℕ → ℕ → Type 0
IsNoneBehindTags two s from = (v : Value) (used : ℕ) → IsBehindTags two s from v used → ⊥

-- an element, or none, is found; or memory ran out
abbrev pub IsFound : Bool → List ℕ → ℕ → Result (Option (Edn × ℕ)) EdnFault → Type 0
IsFound two s from (Ok (Some r)) = IsBehindTags two s from (view r.0) r.1
IsFound two s from (Ok None) = IsNoneBehindTags two s from
IsFound two s from (Err f) = f.cause ≢ cause.OutOfMemory → IsNoneBehindTags two s from
