-- What a handle holds, as C holds it.
use Rattle.std.specs.Prelude.{◌≡◌, ℕ, List, Option, None, Some}
use Rattle.lin_texts.specs.declared.settings.Settings.{Settings}
use Rattle.lin_embedded.specs.Recorders.{HasRead}
use Rattle.lin_embedded.specs.declared.recorder.Recorder.{Recorder}

-- it holds a recorder that was fed just these bytes
abbrev pub HasFed : Settings → Option Recorder → List ℕ → Type 0
HasFed settings None bytes = ⊥
HasFed settings (Some r) bytes = HasRead settings r bytes

-- nothing is done where it is null, and else this to what it holds, and it holds that again
abbrev pub Does : {T : Type 0} → (Recorder → Recorder → T → Type 0) → Option Recorder → Option Recorder → Option T → Type 0
Does is old new None = (old ≡ None) × (new ≡ None)
Does is old new (Some result) = (r : Recorder) × (r' : Recorder) × (old ≡ Some r) × (new ≡ Some r') × is r r' result
