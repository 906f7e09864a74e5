-- What is told of a no. All is said of the object's own events in the shortest failing prefix.
use Rattle.std.specs.Prelude.{◌≡◌, ◌-◌, ◌++◌, ℕ, List, [], Option, Some, None, codes, decimal, take}
use Rattle.lin_events.specs.declared.calls.Reply.{Reply}
use Rattle.lin_events.specs.declared.events.Event.{Event}
use Rattle.lin_events.specs.declared.events.Body.{Body}
use Rattle.lin_events.specs.declared.events.Body.TheVariants.{Invoke, Ok, Fail, Info}
use Rattle.lin_events.specs.Operations.{IsEvent}
use Rattle.lin_objects.specs.declared.kinds.Kind.{Kind}
use Rattle.lin_order.specs.Parts.{IsNth}
use Rattle.lin_texts.specs.declared.place.Place.{Place}
use Rattle.lin_answers.specs.Answers.{kinds_in}
use Rattle.lin_answers.specs.Edits.{Present}
use Rattle.lin_tables.specs.WindowOperations.{IsFailing}
use Rattle.lin_tables.specs.WindowTables.{Told}
use Rattle.lin_tables.specs.Operations.{operation_text}
use Rattle.lin_tables.specs.Spots.{event_spot_text}
use Rattle.lin_explain.specs.Heads.{object_text}
use Rattle.lin_possibilities.specs.Outcomes.{Failing}
use Rattle.lin_explain.specs.Own.{IsStretch, without_last}
use Rattle.lin_explain.specs.Parts.{IsSpot}
use Rattle.lin_explain.specs.Possible.{IsPossibleText}
use Rattle.lin_explain.specs.Since.{IsSinceText}
use Rattle.lin_explain.specs.Whys.{IsWhyText}
use Rattle.lin_explain.specs.declared.parts.Failed.{Failed}
use Rattle.lin_explain.specs.declared.parts.Spot.{Spot}
use Rattle.lin_explain.specs.declared.parts.Why.{Why}

-- the reply that an event records, if it does
abbrev pub reply_in : Body → Option Reply
reply_in (Invoke call) = None
reply_in (Ok name reply) = Some reply
reply_in (Fail name) = None
reply_in (Info name) = None

abbrev pub ends_text : Body → List ℕ
ends_text (Fail name) = codes ", fail at "
ends_text (Invoke call) = codes ", ok at "
ends_text (Ok name reply) = codes ", ok at "
ends_text (Info name) = codes ", ok at "

abbrev pub prefix_line : ℕ → List ℕ
prefix_line n = codes "its events among the first " ++ decimal (n - 1) ++ codes " have a legal order, among the first " ++ decimal n ++ codes " they have none\n"

module _ (names : List (List ℕ)) where
  abbrev pub failing_text : Event → Event → List ℕ
  failing_text invocation ending = body_text invocation.body
    where
      body_text : Body → List ℕ
      body_text (Invoke call) = operation_text names invocation.process call (reply_in ending.body)
      body_text (Ok name reply) = []
      body_text (Fail name) = []
      body_text (Info name) = []

  -- the failing operation, with its reply, and where it was called and ended
  abbrev pub operation_line : Kind → Option (List Place) → ℕ → ℕ → Event → Event → List ℕ
  operation_line kind places at n invocation ending = object_text names ending.key kind ++ failing_text invocation ending ++ codes ", called at " ++ event_spot_text places at
      ++ ends_text ending.body ++ event_spot_text places (n - 1) ++ codes "\n"

  abbrev pub head_text : Kind → Option (List Place) → ℕ → ℕ → Event → Event → List ℕ
  head_text kind places at n invocation ending = operation_line kind places at n invocation ending ++ prefix_line n

  -- the end and the invocation of the failing operation
  pub record AreSpots (places : Option (List Place)) (at n : ℕ) (invocation ending : Event) (spots : Spot × Spot) : Type 0 where
    pub end_spot : IsSpot names places (n - 1) ending spots.0
    pub call_spot : IsSpot names places at invocation spots.1

-- the events before the end of the operation, and what the end records
abbrev pub failing_in : Kind → List Event → ℕ → Event → Failing
failing_in kind h call ending = record { kind = kind; events = without_last h; call = call; process = ending.process; recorded = reply_in ending.body }

-- why there is no legal order, if a certificate says it; and what ran since the object was quiet, with the operations marked that the certificate names
pub record AreReasons (kind : Kind) (budget : ℕ) (stretch : Told) (call : ℕ) (lines : List ℕ) (told : Option Why) (from : ℕ) : Type 0 where
  pub why : List ℕ
  pub named : List ℕ
  pub since : List ℕ
  pub is_why : IsWhyText kind stretch call why named told
  pub is_since : IsSinceText kind budget stretch call named since from
  pub says : lines ≡ why ++ since

-- the failing operation, with where it was called and how it ended; what was possible before its end; and why there is no legal order
pub record IsFailureText (kind : Kind) (budget : ℕ) (stretch : Told) (n call : ℕ) (ending : Event) (lines : List ℕ) (failed : Failed) : Type 0 where
  pub invocation : Event
  pub at : ℕ
  pub possible : List ℕ
  pub reasons : List ℕ
  pub failing : IsFailing stretch.events call
  pub called : IsEvent stretch.events call invocation
  pub stands : IsNth stretch.picks call at
  pub is_possible : IsPossibleText stretch.names (failing_in kind stretch.events call ending) n budget possible failed.replies failed.states
  pub are_reasons : AreReasons kind budget stretch call reasons failed.why failed.from
  pub says : lines ≡ (head_text stretch.names kind stretch.places at n invocation ending ++ possible) ++ reasons
  pub key_of : failed.key ≡ ending.key
  pub kind_of : failed.kind ≡ kind
  pub spots : AreSpots stretch.names stretch.places at n invocation ending (failed.event, failed.call)

-- What is told of a no, of the object whose event is the last one of the shortest failing prefix. That is the ok or the fail of an operation.
pub record IsNoText (names : List (List ℕ)) (now : Present) (places : Option (List Place)) (n : ℕ) (lines : List ℕ) (failed : Failed) : Type 0 where
  pub ending : Event
  pub stretch : Told
  pub call : ℕ
  pub stands : IsEvent now.history (n - 1) ending
  pub own : IsStretch names ending.key (take n now.history) places stretch
  pub told : IsFailureText (kinds_in now ending.key) now.budget stretch n call ending lines failed
