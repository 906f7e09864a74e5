-- The events that an explanation speaks of, and what it tells of a failure.
use Rattle.std.specs.Prelude.{ℕ, List, [], ◌++◌, Option, Some, None, codes, decimal}
use Rattle.std.specs.Global.{Vec}
use Rattle.std.specs.List.{join_by}
use Rattle.lin_events.specs.declared.items.Item.{Item}
use Rattle.lin_explain.specs.declared.parts.Choices.{Choices}
use Rattle.lin_explain.specs.declared.parts.Failed.{Failed}
use Rattle.lin_explain.specs.declared.parts.Spot.{Spot}
use Rattle.lin_explain.specs.declared.parts.Why.{Why}
use Rattle.lin_objects.specs.declared.kinds.Kind.{Kind}
use Rattle.lin_texts.specs.declared.place.Place.{Place}
use Rattle.lin_json.specs.Answers.{named_json}
use Rattle.lin_json.specs.Strings.{string_json}

-- where something stands, if it has a place
abbrev pub place_json : Option Place → List ℕ
place_json None = []
place_json (Some place) = codes ",\"line\":" ++ decimal place.line ++ codes ",\"offset\":" ++ decimal place.offset

-- an event: its position, its place, and its words
abbrev pub spot_json : Spot → List ℕ
spot_json spot = codes "{\"at\":" ++ decimal spot.at ++ place_json spot.place ++ codes ",\"words\":" ++ string_json spot.words.items ++ codes "}"

-- a count, where it is known
abbrev pub count_json : Option ℕ → List ℕ
count_json None = codes "null"
count_json (Some count) = decimal count

-- the elements of an array of strings
abbrev pub words_json : List (Vec ℕ) → List ℕ
words_json words = join_by (λ w. string_json w.items) (codes ",") words

-- what was possible: how much, and the words of some of it
abbrev pub choices_json : Choices → List ℕ
choices_json choices = codes "{\"count\":" ++ count_json choices.count ++ codes ",\"some\":[" ++ words_json choices.some.items ++ codes "]}"

-- the elements of an array of numbers
abbrev pub calls_json : List ℕ → List ℕ
calls_json calls = join_by decimal (codes ",") calls

-- the certificate: its form, and where the operations that it names were invoked
abbrev pub why_json : Option Why → List ℕ
why_json None = codes "null"
why_json (Some why) = codes "{\"name\":" ++ string_json why.name.now ++ codes ",\"calls\":[" ++ calls_json why.calls.items ++ codes "]}"

abbrev pub outcome_json : Failed → List ℕ
outcome_json failed = codes ",\"replies\":" ++ choices_json failed.replies ++ codes ",\"states\":" ++ choices_json failed.states ++ codes ",\"why\":" ++ why_json failed.why

module _ (names : List (List ℕ)) where
  -- an event of an object
  abbrev pub named_event : Item → Kind → Spot → List ℕ
  named_event key kind event = codes "," ++ named_json names key kind ++ codes ",\"event\":" ++ spot_json event

  -- a failure: its object, the event with which legal orders end, the call of the failing operation, and what is known of both
  abbrev pub failed_json : Failed → List ℕ
  failed_json failed = named_event failed.key failed.kind failed.event ++ codes ",\"call\":" ++ spot_json failed.call ++ outcome_json failed
      ++ codes ",\"from\":" ++ decimal failed.from
