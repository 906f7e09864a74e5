-- What is told of a history that isn't well-formed.
use Rattle.std.specs.Prelude.{◌≡◌, ◌<◌, ℕ, List, [], ◌++◌, Option, Some, None, codes}
use Rattle.lin_events.specs.declared.items.Item.{Item}
use Rattle.lin_events.specs.declared.calls.Name.{Name}
use Rattle.lin_events.specs.declared.calls.Name.TheVariants.{Read, Write, Cas, Enqueue, Dequeue, Add, Acquire, Release}
use Rattle.lin_events.specs.declared.events.Event.{Event}
use Rattle.lin_events.specs.declared.events.Body.{Body}
use Rattle.lin_events.specs.declared.events.Body.TheVariants.{Invoke, Ok, Fail, Info}
use Rattle.lin_events.specs.declared.shapes.Cause.{Cause}
use Rattle.lin_events.specs.declared.shapes.Cause.TheVariants.{RetiredProcess, BusyProcess, NotOfKind, NoInvocation, OtherCall, OtherKey}
use Rattle.lin_events.specs.Names.{name_of}
use Rattle.lin_events.specs.Operations.{IsEvent, IsOf}
use Rattle.lin_objects.specs.declared.kinds.Kind.{Kind}
use Rattle.lin_texts.specs.Items.{item_text}
use Rattle.lin_texts.specs.Kinds.{kind_text}
use Rattle.lin_texts.specs.declared.place.Place.{Place}
use Rattle.lin_tables.specs.Operations.{event_text, name_text}
use Rattle.lin_tables.specs.Spots.{event_spot_text}
use Rattle.lin_explain.specs.Parts.{IsSpot}
use Rattle.lin_explain.specs.declared.parts.Parts.{Parts}
use Rattle.lin_explain.specs.declared.parts.Parts.TheVariants as Part
use Rattle.lin_explain.specs.declared.parts.Spot.{Spot}

-- where the last event of the process before the position stands, if there is one
abbrev pub IsLastPlace : List Event → ℕ → ℕ → Option ℕ → Type 0
IsLastPlace h process at None = (k : ℕ) → k < at → IsOf h process k → ⊥
IsLastPlace h process at (Some earlier) = (earlier < at) × IsOf h process earlier × ((k : ℕ) → earlier < k → k < at → IsOf h process k → ⊥)

-- that event, and where it stands
abbrev pub IsLastBefore : List Event → ℕ → ℕ → ℕ → Option Event → Type 0
IsLastBefore h process at earlier None = (k : ℕ) → k < at → IsOf h process k → ⊥
IsLastBefore h process at earlier (Some event) = (earlier < at) × IsEvent h earlier event × (event.process ≡ process)
    × ((k : ℕ) → earlier < k → k < at → IsOf h process k → ⊥)

-- the words for the kinds that know calls of the function, in the order of the kinds
abbrev pub kinds_text : Name → List ℕ
kinds_text Read = codes "register, cas-register, set"
kinds_text Write = codes "register, cas-register"
kinds_text Cas = codes "cas-register"
kinds_text Enqueue = codes "fifo, unordered-queue"
kinds_text Dequeue = codes "fifo, unordered-queue"
kinds_text Add = codes "set"
kinds_text Acquire = codes "mutex"
kinds_text Release = codes "mutex"

abbrev pub function_text : Kind → Name → List ℕ
function_text kind name = name_text name ++ codes " is no call of kind " ++ kind_text kind ++ codes "; it is one of " ++ kinds_text name ++ codes "\n"

abbrev pub not_of_kind_text : Kind → Body → List ℕ
not_of_kind_text kind (Invoke call) = function_text kind (name_of call)
not_of_kind_text kind (Ok name reply) = []
not_of_kind_text kind (Fail name) = []
not_of_kind_text kind (Info name) = []

module _ (names : List (List ℕ)) where
  abbrev pub stood_text : Option (List Place) → ℕ → Event → List ℕ
  stood_text places at event = event_text names event ++ codes " at " ++ event_spot_text places at ++ codes "\n"

  -- the line on the event before
  abbrev pub before_text : Option (List Place) → ℕ → Option Event → List ℕ
  before_text places at None = codes "before it nothing of this process\n"
  before_text places at (Some event) = codes "before it " ++ stood_text places at event

  abbrev pub keys_text : Option Event → Item → List ℕ
  keys_text None key = []
  keys_text (Some event) key = codes "a completion has the key of its invocation: " ++ item_text names event.key ++ codes " and " ++ item_text names key ++ codes "\n"

  -- what is asked of histories
  abbrev pub sentence_text : Kind → Event → Option Event → Cause → List ℕ
  sentence_text kind event before RetiredProcess = codes "a process isn't used again after an :info: its client goes on under a new number\n"
  sentence_text kind event before BusyProcess = codes "a process calls again only when its call has ended with :ok, :fail or :info\n"
  sentence_text kind event before NotOfKind = not_of_kind_text kind event.body
  sentence_text kind event before NoInvocation = codes "a completion stands behind an invocation of its process\n"
  sentence_text kind event before OtherCall = codes "a completion has the :f of its invocation\n"
  sentence_text kind event before OtherKey = keys_text before event.key

  -- the line on the event before, but where the cause has nothing to do with it
  abbrev pub before_line : Option (List Place) → ℕ → Option Event → Cause → List ℕ
  before_line places at before RetiredProcess = before_text places at before
  before_line places at before BusyProcess = before_text places at before
  before_line places at before NotOfKind = []
  before_line places at before NoInvocation = before_text places at before
  before_line places at before OtherCall = before_text places at before
  before_line places at before OtherKey = before_text places at before

  abbrev pub bad_text : Kind → Option (List Place) → ℕ → Event → ℕ → Option Event → Cause → List ℕ
  bad_text kind places at event earlier before cause = (stood_text places at event ++ before_line places earlier before cause) ++ sentence_text kind event before cause

  -- the lines: the event, the last one of its process before it, and what is asked of histories. The parts have the event
  pub record IsIllFormedText (h : List Event) (kinds : Item → Kind) (places : Option (List Place)) (at : ℕ) (cause : Cause) (lines : List ℕ) (parts : Parts) : Type 0 where
    pub event : Event
    pub earlier : ℕ
    pub before : Option Event
    pub spot : Spot
    pub stands : IsEvent h at event
    pub is_before : IsLastBefore h event.process at earlier before
    pub says : lines ≡ bad_text (kinds event.key) places at event earlier before cause
    pub is_spot : IsSpot names places at event spot
    pub told : parts ≡ Part.IllFormed spot
