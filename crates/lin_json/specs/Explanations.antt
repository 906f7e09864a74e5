-- Explanations of answers, and of refused files.
use Rattle.std.specs.Prelude.{ℕ, Bool, false, List, [], ◌++◌, ◌||◌, Option, Some, None, codes, is_some}
use Rattle.lin_events.specs.declared.items.Item.{Item}
use Rattle.lin_explain.specs.declared.parts.Parts.{Parts}
use Rattle.lin_explain.specs.declared.parts.Parts.TheVariants.{Yes, No, Undecided, IllFormed}
use Rattle.lin_explain.specs.declared.parts.Spot.{Spot}
use Rattle.lin_explain.specs.declared.parts.Why.{Why}
use Rattle.lin_texts.specs.declared.status.Status.{Status}
use Rattle.lin_objects.specs.declared.kinds.Kind.{Kind}
use Rattle.lin_texts.specs.declared.place.Place.{Place}
use Rattle.lin_json.specs.Answers.{counted_json, head_json, named_json}
use Rattle.lin_json.specs.Failures.{failed_json, named_event, place_json, spot_json, why_json}
use Rattle.lin_json.specs.Strings.{string_json}

abbrev pub event_json : Spot → List ℕ
event_json event = codes ",\"event\":" ++ spot_json event

-- the text of an explanation
abbrev pub told_json : List ℕ → List ℕ
told_json told = codes ",\"text\":" ++ string_json told ++ codes "}"

-- why a file is refused, and where the fault stands, if it has a place
abbrev pub refusal_json : Status → List ℕ → Option Place → List ℕ → List ℕ
refusal_json status answer place told = codes "{" ++ head_json false status answer ++ place_json place ++ told_json told

-- the map of the object that is a no beside an undecided whole, if one is
abbrev pub failed_map : Option (List ℕ) → List ℕ
failed_map None = []
failed_map (Some map) = codes ",\"failed\":" ++ map

-- an object that is undecided, of whose events a certificate is told: it has no legal order all the same
abbrev pub is_certain : Parts → Bool
is_certain (Undecided key kind event why) = is_some why
is_certain (Yes object) = false
is_certain (No failed) = false
is_certain (IllFormed event) = false

-- that certificate, if one is told
abbrev pub certain_json : Option Why → List ℕ
certain_json None = []
certain_json (Some why) = codes ",\"why\":" ++ why_json (Some why)

module _ (names : List (List ℕ)) where
  -- the object that was asked about, if one was
  abbrev pub object_named : Option (Item × Kind) → List ℕ
  object_named None = []
  object_named (Some object) = codes "," ++ named_json names object.0 object.1

  -- what is said of the history, by the answer
  abbrev pub parts_json : Parts → List ℕ
  parts_json (Yes object) = object_named object
  parts_json (No failed) = failed_json names failed
  parts_json (Undecided key kind event why) = named_event names key kind event ++ certain_json why
  parts_json (IllFormed event) = event_json event

  -- the explanation of an answer for a history of so many events, and the map of an object that is a no beside it, if one is
  abbrev pub explanation_json : Status → List ℕ → ℕ → Parts → Option (List ℕ) → List ℕ → List ℕ
  explanation_json status answer events parts failed told =
      counted_json (is_some failed || is_certain parts) status answer events ++ parts_json parts ++ failed_map failed ++ told_json told
