-- Keys that are asked about: what is told of one that no event has, and how a run ends then.
use Rattle.std.specs.Prelude.{◌≡◌, ◌≢◌, ◌≤◌, ◌-◌, ◌^◌, ◌++◌, ◌∷◌, ℕ, List, [], Option, Some, None, Result, Ok, Err, codes, decimal, length, nat_lt, option_map, take, if◌then◌else◌}
use Rattle.std.specs.Io.KnownBytes.{Consumes, IsAtEnd, Keeps}
use Rattle.std.specs.List.{join_by}
use Rattle.lin_events.specs.declared.events.Event.{Event}
use Rattle.lin_events.specs.declared.items.Item.{Item}
use Rattle.lin_names.specs.Names.{AgreesWith, AreEachOnce, Numbering}
use Rattle.lin_names.specs.Spelled.{numbered, seen}
use Rattle.lin_names.specs.declared.said.Said.{Said}
use Rattle.lin_order.specs.Parts.{part}
use Rattle.lin_answers.specs.Keys.{AreKeys}
use Rattle.lin_formats.specs.Inputs.{IsEnough}
use Rattle.lin_texts.specs.Items.{item_text}
use Rattle.lin_texts.specs.declared.faults.RunFault.{RunFault}
use Rattle.lin_texts.specs.declared.settings.Settings.{Settings}
use Rattle.lin_report.specs.Reports.{IsPrintRun, Printing}
use Rattle.lin_report.specs.declared.asked_keys.RunEnding.{RunEnding}
use Rattle.lin_report.specs.declared.asked_keys.RunEnding.TheVariants as ending

-- the key that is said, by each numbering that agrees with these names; none where none is
abbrev pub IsKey : List (List ℕ) → Option Said → Option Item → Type 0
IsKey names said key = (number : Numbering) → AgreesWith names number → key ≡ option_map (λ s. numbered number (seen s)) said

-- an event has the key that is asked about, or none is asked about
abbrev pub HasEvents : List Event → Option Item → Type 0
HasEvents events None = Unit {0}
HasEvents events (Some key) = part key events ≢ []

-- with these spellings of words
module _ (names : List (List ℕ)) where
  abbrev pub listed_keys : List Item → List ℕ
  listed_keys keys = join_by (item_text names) (codes ", ") keys

  -- the first eight keys, and how many more there are
  abbrev pub first_keys : List Item → List ℕ
  first_keys keys = if nat_lt 8 (length keys) then listed_keys (take 8 keys) ++ codes " and " ++ decimal (length keys - 8) ++ codes " more" else listed_keys keys

  -- which keys there are: these
  abbrev pub keys_text : List Item → List ℕ
  keys_text [] = codes ", and there are no others"
  keys_text (key ∷ []) = codes "; the key is " ++ item_text names key
  keys_text (key ∷ other ∷ others) = codes "; the keys are " ++ first_keys (key ∷ other ∷ others)

  abbrev pub absence_text : Item → List Item → List ℕ
  absence_text key keys = codes "no event has key " ++ item_text names key ++ keys_text keys

  -- a key is asked about that none of the events has, and these words tell so, with all keys that there are, each once, in the order of print
  abbrev pub IsAbsence : List Event → Option Item → List ℕ → Type 0
  IsAbsence events None words = ⊥
  IsAbsence events (Some key) words = (part key events ≡ []) × ((keys : List Item) × AreKeys names events keys × (words ≡ absence_text key keys))

-- what is right to tell of the bytes of a file: they are a whole history, and no event of it has the key that is said
abbrev pub IsRightAbsence : Settings → Option Said → List ℕ → Option (List ℕ) → List ℕ → Type 0
IsRightAbsence settings said bytes left words = (names : List (List ℕ)) × AreEachOnce names
    × (events : List Event) × IsEnough settings.keyed names settings.at_least bytes events × IsAtEnd left
    × (key : Option Item) × IsKey names said key × IsAbsence names events key words

-- what is left of a file went from the one to the other, the bytes between are not too many, and this is right to tell of them
abbrev pub IsAbsenceTold : Settings → Option Said → Option (List ℕ) → Option (List ℕ) → List ℕ → Type 0
IsAbsenceTold settings said old new words = (bytes : List ℕ) × Consumes old new bytes × (length bytes ≤ 2 ^ 40) × IsRightAbsence settings said bytes new words

-- What a run reads and writes, and how it ends, where a key may be asked about: something is right to print, and the run ends with its status; or no
-- event has the key, nothing is printed, and it ends with what is right to tell of that; or early.
abbrev pub IsAskedRun : Printing → Settings → Option Said → Option (List ℕ) → Option (List ℕ) → Option (List ℕ) → Option (List ℕ) → Result RunEnding RunFault → Type 0
IsAskedRun is_right settings said old new before after (Ok (ending.Answered status)) = IsPrintRun is_right old new before after (Ok status)
IsAskedRun is_right settings said old new before after (Ok (ending.NoKey words)) = IsAbsenceTold settings said old new words.items × Keeps before after
IsAskedRun is_right settings said old new before after (Err fault) = IsPrintRun is_right old new before after (Err fault)
