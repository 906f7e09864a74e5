-- Where a text stops that has no fault so far.
use Rattle.std.proofs.Common.{◌≡◌, ℕ, List, Bool, false, Result, Ok, Err, ap, subst}
use Rattle.std.proofs.lemmas.Bool.{true≢false}
use Rattle.lin_events.specs.declared.events.Event.{Event}
use Rattle.lin_history.specs.Reading.{Reading}
use Rattle.lin_history.specs.Sees.{Followed, Sees, is_fault}
use Rattle.lin_history.specs.Stream.{StreamsAreUnique}
use Rattle.lin_history.specs.declared.follow.FollowFault.{FollowFault}
use Rattle.lin_history.specs.declared.follow.FollowFault.TheVariants as fault
use Rattle.lin_formats.specs.Places.{Marked, Marks, StopsAt, is_bad}
use Rattle.lin_formats.specs.declared.place.Stop.{Stop}

stops_calmly : (m : Reading) (s : List ℕ) (es : List Event) (o : Result (Unit {0}) FollowFault) (x : Stop) → is_fault o ≡ false → StopsAt m s es o x → is_bad x ≡ false
stops_calmly m s es (Ok u) x going at = ap is_bad at
stops_calmly m s es (Err (fault.Truncated p)) x going at = ap is_bad at
stops_calmly m s es (Err (fault.Edn p cause)) x going at = absurd (true≢false going)
stops_calmly m s es (Err (fault.Event p cause)) x going at = absurd (true≢false going)
stops_calmly m s es (Err fault.OutOfMemory) x going at = absurd at
stops_calmly m s es (Err fault.TooMuch) x going at = absurd at

-- of a text that goes on for a follower no fault is told by a reader of places
pub calm_so : StreamsAreUnique → (m : Reading) (follow : Followed) (marked : Marked) (text : List ℕ) (events : List Event) → Sees m follow text events →
    Marks m marked text → is_fault follow.outcome ≡ false → is_bad marked.stop ≡ false
calm_so unique m follow marked text events sees marks going =
    let same = (unique m text _ _ _ _ sees.is_stream marks.is_stream).1 in
    stops_calmly m text marks.events marks.outcome marked.stop (subst (λ o. is_fault o ≡ false) same going) marks.stops
