-- What a recorder was fed, and what is right to say of it.
use Rattle.std.specs.Prelude.{◌≡◌, ◌≤◌, ◌++◌, ◌∷◌, [], ◌||◌, ℕ, Bool, List, Option, None, Some, Result, Ok, Err, length, nat_lt, take}
use Rattle.lin_events.specs.declared.lists.OutOfMemory.{OutOfMemory}
use Rattle.lin_events.specs.declared.events.Event.{Event}
use Rattle.lin_names.specs.Names.{AreEachOnce}
use Rattle.lin_history.specs.declared.follow.FollowFault.{FollowFault}
use Rattle.lin_history.specs.Sees.{is_fault}
use Rattle.lin_history.specs.Stream.{IsStreamBy}
use Rattle.lin_objects.specs.Kinds.{same_for_all}
use Rattle.lin_answers.specs.Answers.{IsAnswer, IsVerdict, verdict_of}
use Rattle.lin_answers.specs.Edits.{Present}
use Rattle.lin_answers.specs.declared.answers.Answer.{Answer}
use Rattle.lin_answers.specs.declared.answers.Answer.TheVariants.{IllFormed, Yes, No, Undecided}
use Rattle.lin_answers.specs.declared.answers.Scope.TheVariants.{Whole}
use Rattle.lin_answers.specs.declared.answers.Verdict.{Verdict}
use Rattle.lin_formats.specs.Inputs.{limit}
use Rattle.lin_formats.specs.Intakes.{AreSeen}
use Rattle.lin_texts.specs.Texts.{order_text}
use Rattle.lin_texts.specs.declared.settings.Settings.{Settings}
use Rattle.lin_embedded.specs.declared.recorder.Intake.{Intake}
use Rattle.lin_embedded.specs.declared.recorder.Ordered.{Ordered}
use Rattle.lin_embedded.specs.declared.recorder.Recorder.{Recorder}

-- a history of these events, with all objects of one kind
abbrev pub opened : Settings → List Event → Present
opened settings events = record { history = events; kinds = same_for_all settings.kind; budget = settings.budget }

-- the event that is in hand, if one is
abbrev pub held : Option Event → List Event
held None = []
held (Some event) = event ∷ []

-- The recorder was fed just these bytes, in whatever pieces: read as one text, they say the events of its history, the one in hand, and those that are
-- ready behind them.
pub record HasRead (settings : Settings) (r : Recorder) (bytes : List ℕ) : Type 0 where
  pub present : r.session.present ≡ opened settings r.session.present.history
  pub few : length r.session.present.history ≤ limit
  pub keyed : r.follow.keyed ≡ settings.keyed
  pub once : AreEachOnce r.names
  pub sees : AreSeen r.names r.follow bytes (r.session.present.history ++ held r.in_hand)

-- What a text says so far, by these names: its events, to where it ends, be that in an element, or to a fault of form.
pub record Saying (keyed : Bool) (names : List (List ℕ)) (text : List ℕ) : Type 0 where
  pub events : List Event
  pub outcome : Result (Unit {0}) FollowFault
  pub stream : IsStreamBy keyed names text events outcome

-- how many of its events count, and whether nothing counts behind them
abbrev pub IsIntake : Bool → List (List ℕ) → List ℕ → Intake → Type 0
IsIntake keyed names text intake = (said : Saying keyed names text) × (intake.events ≡ length (take limit said.events))
    × (intake.is_refused ≡ (is_fault said.outcome || nat_lt limit (length said.events)))

-- the verdict on the events of the text that count
abbrev pub IsVerdictOf : Settings → List (List ℕ) → List ℕ → Verdict → Type 0
IsVerdictOf settings names text verdict = (said : Saying settings.keyed names text) × IsVerdict (opened settings (take limit said.events)) Whole verdict

-- the text of the order of a yes; of another answer nothing
abbrev pub order_in : List (List ℕ) → Answer → List ℕ
order_in names (Yes order) = order_text names order.items
order_in names (IllFormed at cause) = []
order_in names (No n) = []
order_in names (Undecided at) = []

-- a verdict on the events of the text that count, and a legal order for a yes
abbrev pub IsOrderedOf : Settings → List (List ℕ) → List ℕ → Ordered → Type 0
IsOrderedOf settings names text ordered = (said : Saying settings.keyed names text) × (answer : Answer)
    × IsAnswer (opened settings (take limit said.events)) Whole answer × (ordered.verdict ≡ verdict_of answer) × (ordered.order.items ≡ order_in names answer)

-- What feeding a piece makes of a recorder: it has read one piece more, and tells how far that goes; or, refused memory, what it had read.
abbrev pub Feeds : List ℕ → Recorder → Recorder → Result Intake OutOfMemory → Type 0
Feeds piece old new (Ok intake) = (settings : Settings) (bytes : List ℕ) → HasRead settings old bytes
    → HasRead settings new (bytes ++ piece) × IsIntake settings.keyed new.names (bytes ++ piece) intake
Feeds piece old new (Err refused) = (settings : Settings) (bytes : List ℕ) → HasRead settings old bytes → HasRead settings new bytes

-- What asking makes of one: it has read what it had; and the verdict is that on all of it, or memory was refused.
abbrev pub Asks : Recorder → Recorder → Result Verdict OutOfMemory → Type 0
Asks old new (Ok verdict) = (settings : Settings) (bytes : List ℕ) → HasRead settings old bytes → HasRead settings new bytes × IsVerdictOf settings new.names bytes verdict
Asks old new (Err refused) = (settings : Settings) (bytes : List ℕ) → HasRead settings old bytes → HasRead settings new bytes

-- the same, with an order
abbrev pub Orders : Recorder → Recorder → Result Ordered OutOfMemory → Type 0
Orders old new (Ok ordered) = (settings : Settings) (bytes : List ℕ) → HasRead settings old bytes → HasRead settings new bytes × IsOrderedOf settings new.names bytes ordered
Orders old new (Err refused) = (settings : Settings) (bytes : List ℕ) → HasRead settings old bytes → HasRead settings new bytes
