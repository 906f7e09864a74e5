-- What is known of the bytes that a reader of places holds: cited by the contracts of private functions, and by the invariant of `Places`
-- over its private fields.
use Rattle.std.specs.Prelude.{◌≡◌, ℕ, true, List, ◌++◌, drop, Result, Ok, Err}
use Rattle.lin_edn.specs.Skimming.{HasSeen}
use Rattle.lin_formats.specs.inner.Marks.{Fits}
use Rattle.lin_events.specs.declared.lists.OutOfMemory.{OutOfMemory}
use Rattle.lin_texts.specs.declared.place.Place.{Place}
use Rattle.lin_formats.specs.declared.mark.Read.{Read}
use Rattle.lin_formats.specs.declared.places.Rest.{Rest}

-- if the skim has seen what is held, it is right for it
abbrev pub IsSeen : Rest → List ℕ → Type 0
IsSeen rest text = rest.is_seen ≡ true → HasSeen rest.skim text

-- a piece is put behind what is held, and what is read of both is dropped; or all is as it was
abbrev pub IsCut : List ℕ → List ℕ → List Place → List ℕ → List Place → Result Read OutOfMemory → Type 0
IsCut piece held places held' places' (Ok r) = (held' ≡ drop r.next.at (held ++ piece)) × Fits (held ++ piece) r.next
IsCut piece held places held' places' (Err _) = (held' ≡ held) × (places' ≡ places)
