-- What is taken in of a file so far.
use Rattle.std.specs.Prelude.{◌≡◌, ◌+◌, ◌<◌, ◌≤◌, ◌^◌, ℕ, List, [], ◌++◌, true, false, Ok, Err, Option, MatchOption, length}
use Rattle.lin_events.specs.declared.events.Event.{Event}
use Rattle.lin_history.specs.Reading.{Reading, IsReading}
use Rattle.lin_history.specs.Sees.{Followed, Sees, is_fault}
use Rattle.lin_history.specs.declared.follow.FollowFault.{FollowFault}
use Rattle.lin_formats.specs.Inputs.{limit, refusal_of}
use Rattle.lin_formats.specs.declared.verdicts.Refusal.{Refusal}

-- by these names the bytes are a stream of which these events were taken, as the follower says
abbrev pub AreSeen : List (List ℕ) → Followed → List ℕ → List Event → Type 0
AreSeen names follow bytes events = (m : Reading) → IsReading follow.keyed names m → Sees m follow bytes events

-- One more piece was taken in, where these are the names before and behind it: what was seen of the bytes is seen of the longer ones,
-- which weren't too many, and the stream may go on or ends by the fault that is told.
pub record IsFedOn (before names : List (List ℕ)) (old : Followed) (piece : List ℕ) (new : Followed) (refusal : Option Refusal) : Type 0 where
  pub seen : (bytes : List ℕ) (events : List Event) → AreSeen before old bytes events → AreSeen names new (bytes ++ piece) events
  pub fits : (bytes : List ℕ) (events : List Event) → AreSeen before old bytes events → is_fault old.outcome ≡ false → length bytes + length piece ≤ 2 ^ 40
  pub ends : MatchOption refusal (is_fault new.outcome ≡ false)
      (λ r. (fault : FollowFault) × (new.outcome ≡ Err fault) × (is_fault (Err fault) ≡ true) × (refusal_of fault ≡ Ok r))

-- one more piece passes the greatest number of bytes
abbrev pub IsTooMuch : List (List ℕ) → Followed → List ℕ → Type 0
IsTooMuch names follow piece = (bytes : List ℕ) (events : List Event) → AreSeen names follow bytes events → 2 ^ 40 < length bytes + length piece

-- the follower was fed these bytes, and by these names these are all the events that it made of them; they are not too many
pub record IsFed (names : List (List ℕ)) (follow : Followed) (bytes : List ℕ) (events : List Event) : Type 0 where
  pub sees : AreSeen names follow bytes events
  pub none_ready : follow.ready ≡ []
  pub within : length events ≤ limit
