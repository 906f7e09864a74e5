-- What waits to go into the history: cited by the contracts of private functions alone.
use Rattle.std.specs.Prelude.{◌≡◌, ◌≤◌, ◌⊎◌, ◌∷◌, ◌++◌, [], ℕ, List, Option, None, Some, length}
use Rattle.lin_events.specs.declared.events.Event.{Event}
use Rattle.lin_history.specs.Reading.{Reading}
use Rattle.lin_history.specs.Sees.{Followed, Sees}
use Rattle.lin_formats.specs.Inputs.{limit}
use Rattle.lin_texts.specs.declared.settings.Settings.{Settings}
use Rattle.lin_embedded.specs.declared.recorder.Recorder.{Recorder}
use Rattle.lin_embedded.specs.Recorders.{HasRead, held}

-- the oldest event that waits is taken: the one in hand, or else one that is ready
abbrev pub TakesNext : Option Event → Option Event → Followed → Followed → Option Event → Type 0
TakesNext hand hand' follow follow' None = (held hand ++ follow.ready ≡ []) × (hand' ≡ hand) × (follow' ≡ follow)
TakesNext hand hand' follow follow' (Some event) = (hand' ≡ None) × (follow'.keyed ≡ follow.keyed)
    × ((m : Reading) (bytes : List ℕ) (put : List Event) → Sees m follow bytes (put ++ held hand) → Sees m follow' bytes (put ++ event ∷ []))

-- nothing waits, or there is no room
abbrev pub IsBroughtIn : Recorder → Type 0
IsBroughtIn r = (held r.in_hand ++ r.follow.ready ≡ []) ⊎ (limit ≤ length r.session.present.history)

-- whatever bytes the recorder was fed, it has still read them
abbrev pub StillReads : Recorder → Recorder → Type 0
StillReads old new = (settings : Settings) (bytes : List ℕ) → HasRead settings old bytes → HasRead settings new bytes
