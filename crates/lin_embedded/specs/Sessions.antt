-- What calls on a session make of it and hand back.
use Rattle.std.specs.Prelude.{◌≡◌, ◌≢◌, ℕ, List, [], true, false, Option, None, Some, Result, Ok, Err}
use Rattle.lin_events.specs.declared.lists.OutOfMemory.{OutOfMemory as NoMemory}
use Rattle.lin_answers.specs.declared.answers.Verdict.{Verdict}
use Rattle.lin_answers.specs.declared.answers.Verdict.TheVariants.{IllFormed, Yes, No, Undecided}
use Rattle.lin_texts.specs.declared.status.Status.TheVariants.{Refused}
use Rattle.lin_report.specs.Reports.{answer_status}
use Rattle.lin_embedded.specs.Handles.{HasFed}
use Rattle.lin_embedded.specs.Recorders.{Asks, Feeds, Orders}
use Rattle.lin_embedded.specs.declared.recorder.Ordered.{Ordered}
use Rattle.lin_embedded.specs.declared.recorder.Recorder.{Recorder}
use Rattle.lin_embedded.specs.Calls.{HandsBack, Telling, number_of}
use Rattle.lin_embedded.specs.Options.{AreOptions, settings_of}
use Rattle.lin_embedded.specs.declared.options.Options.{Options}
use Rattle.lin_embedded.specs.declared.handing.CallEnd.{CallEnd}
use Rattle.lin_embedded.specs.declared.handing.CallEnd.TheVariants.{Told, BadOptions, OutOfMemory, Done, NoSession}

-- A session is begun in place of what the handle held, by options that say something; or they say nothing, and it holds what it held; or memory was
-- refused, and it holds none.
abbrev pub Begins : Options → Option Recorder → Option Recorder → CallEnd → Type 0
Begins options old new Done = AreOptions options × HasFed (settings_of options) new []
Begins options old new BadOptions = (AreOptions options → ⊥) × (new ≡ old)
Begins options old new OutOfMemory = AreOptions options × (new ≡ None)
Begins options old new other = ⊥

-- A call on what a handle holds: this is made of it, and the handle holds that; or it holds none, and all of the caller's is as it was.
abbrev pub Calls : (CallEnd → Recorder → Recorder → Type 0) → Type 0 → Option Recorder → Option Recorder → CallEnd → Type 0
Calls is same old new NoSession = (old ≡ None) × (new ≡ None) × same
Calls is same old new ended = (r : Recorder) × (r' : Recorder) × (old ≡ Some r) × (new ≡ Some r') × is ended r r'

-- it has read one piece more, and so many events count; where it is refused, no more will
abbrev pub FeedsAs : List ℕ → ℕ → ℕ → CallEnd → Recorder → Recorder → Type 0
FeedsAs piece was events Done r r' = Feeds piece r r' (Ok (record { events = events; is_refused = false }))
FeedsAs piece was events (Told Refused) r r' = Feeds piece r r' (Ok (record { events = events; is_refused = true }))
FeedsAs piece was events OutOfMemory r r' = ((refused : NoMemory) × Feeds piece r r' (Err refused)) × (events ≡ was)
FeedsAs piece was events other r r' = ⊥

-- how many events the prefix of a no has, and else the place of an event, counted from 0; a yes names none
abbrev pub place_of : Verdict → ℕ → ℕ
place_of (No n) was = n
place_of (Undecided at) was = at
place_of (IllFormed at cause) was = at
place_of Yes was = was

-- it tells a verdict by its number, and the place
abbrev pub AsksAs : ℕ → ℕ → CallEnd → Recorder → Recorder → Type 0
AsksAs was at (Told status) r r' = (verdict : Verdict) × Asks r r' (Ok verdict) × (status ≡ answer_status verdict) × (at ≡ place_of verdict was)
AsksAs was at OutOfMemory r r' = ((refused : NoMemory) × Asks r r' (Err refused)) × (at ≡ was)
AsksAs was at other r r' = ⊥

-- the text of an order, and the status of its verdict
abbrev pub IsTextOf : Result Ordered NoMemory → Telling
IsTextOf (Ok ordered) text status = (text ≡ ordered.order.items) × (status ≡ answer_status ordered.verdict)
IsTextOf (Err refused) text status = ⊥

-- it hands back the text of an order
abbrev pub OrdersAs : List ℕ → List ℕ → ℕ → ℕ → CallEnd → Recorder → Recorder → Type 0
OrdersAs before after was needed ended r r' =
    (found : Result Ordered NoMemory) × Orders r r' found × HandsBack (IsTextOf found) before after was needed ended × (ended ≢ BadOptions)

-- what a number says: it is that of such an end
abbrev pub Numbered : (CallEnd → Type 0) → ℕ → Type 0
Numbered is number = (ended : CallEnd) × (number ≡ number_of ended) × is ended
