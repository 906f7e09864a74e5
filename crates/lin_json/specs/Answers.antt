-- The answers for a history and for its objects.
use Rattle.std.specs.Prelude.{ℕ, ◌==◌, Bool, true, false, List, [], ◌++◌, Option, Some, None, codes, decimal, is_some, if◌then◌else◌}
use Rattle.lin_events.specs.declared.items.Item.{Item}
use Rattle.lin_objects.specs.declared.kinds.Kind.{Kind}
use Rattle.lin_texts.specs.Kinds.{kind_text}
use Rattle.lin_texts.specs.Items.{item_text}
use Rattle.lin_texts.specs.declared.status.Status.{Status}
use Rattle.lin_texts.specs.declared.status.Status.TheVariants.{Yes, No, Undecided, IllFormed, Refused}
use Rattle.lin_json.specs.Strings.{string_json}

-- only a yes says that the history is linearizable, and only a no that it isn't, or what is undecided and has no legal order all the same
abbrev pub valid_text : Status → Bool → List ℕ
valid_text Yes fails = codes "true"
valid_text No fails = codes "false"
valid_text Undecided true = codes "false"
valid_text Undecided false = codes "\"unknown\""
valid_text IllFormed fails = codes "\"unknown\""
valid_text Refused fails = codes "\"unknown\""

-- the exit status of a run that ends so
abbrev pub status_number : Status → ℕ
status_number Yes = 0
status_number No = 1
status_number Undecided = 2
status_number IllFormed = 3
status_number Refused = 4

-- what each map says of an answer or a refusal, which has this line, and of an object that is a no beside it, if one is
abbrev pub head_json : Bool → Status → List ℕ → List ℕ
head_json fails status answer = codes "\"valid?\":" ++ valid_text status fails ++ codes ",\"status\":" ++ decimal (status_number status)
    ++ codes ",\"answer\":" ++ string_json answer

-- what stands in front of a map that tells of a file of this name, in place of the brace that opens it
abbrev pub file_front : List ℕ → List ℕ
file_front name = codes "{\"file\":" ++ string_json name ++ codes ","

-- an answer alone
abbrev pub answer_json : Status → List ℕ → List ℕ
answer_json status answer = codes "{" ++ head_json false status answer ++ codes "}"

-- an answer for a history of so many events, and what else the map says will follow
abbrev pub counted_json : Bool → Status → List ℕ → ℕ → List ℕ
counted_json fails status answer events = codes "{" ++ head_json fails status answer ++ codes ",\"events\":" ++ decimal events

-- that so many maps are passed over, if any are
abbrev pub passed_json : ℕ → List ℕ
passed_json passed = if passed == 0 then [] else codes ",\"passed\":" ++ decimal passed

module _ (names : List (List ℕ)) where
  -- the name of an object; a word for a kind has no byte that is escaped
  abbrev pub named_json : Item → Kind → List ℕ
  named_json key kind = codes "\"key\":" ++ string_json (item_text names key) ++ codes ",\"kind\":\"" ++ kind_text kind ++ codes "\""

  -- the answer for an object
  abbrev pub object_json : Item → Kind → Status → List ℕ → List ℕ
  object_json key kind status answer = codes "{" ++ named_json key kind ++ codes "," ++ head_json false status answer ++ codes "}"

  -- the key of the object that is a no beside an undecided whole, if one is
  abbrev pub failed_key : Option Item → List ℕ
  failed_key None = []
  failed_key (Some key) = codes ",\"failed\":" ++ string_json (item_text names key)

  -- what stands in front of the objects, where so many maps of the file are passed over
  abbrev pub objects_front : Option Item → Status → List ℕ → ℕ → ℕ → List ℕ
  objects_front failed status answer events passed =
      counted_json (is_some failed) status answer events ++ passed_json passed ++ failed_key failed ++ codes ",\"objects\":["

  -- the answer for a history of so many events, with those for its objects, which are these texts
  abbrev pub checked_json : Option Item → Status → List ℕ → ℕ → ℕ → List ℕ → List ℕ
  checked_json failed status answer events passed objects = objects_front failed status answer events passed ++ objects ++ codes "]}"
