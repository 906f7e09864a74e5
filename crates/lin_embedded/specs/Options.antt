-- What the options of a call say.
use Rattle.std.specs.Prelude.{◌≡◌, ◌≢◌, ◌<◌, ◌≤◌, ◌⊎◌, ◌==◌, ℕ, List, [], Option, None, option_map, if◌then◌else◌, false}
use Rattle.lin_names.specs.Spelled.{Spelled, seen}
use Rattle.lin_objects.specs.declared.kinds.Kind.{Kind}
use Rattle.lin_objects.specs.declared.kinds.Kind.TheVariants.{Register, CasRegister, Fifo, Set, Mutex, Bag}
use Rattle.lin_texts.specs.Items.{item_written}
use Rattle.lin_texts.specs.declared.settings.Settings.{Settings}
use Rattle.lin_report.specs.declared.explaining.Question.{Question}
use Rattle.lin_report.specs.declared.formats.ReportFormat.{ReportFormat}
use Rattle.lin_report.specs.declared.formats.ReportFormat.TheVariants.{Text, Json}
use Rattle.lin_embedded.specs.declared.options.Options.{Options}

-- the kinds by their numbers
abbrev pub kind_numbered : ℕ → Kind
kind_numbered n =
    if n == 0 then Register else (if n == 1 then CasRegister else (if n == 2 then Fifo else (if n == 3 then Set else (if n == 4 then Mutex else Bag))))

-- what options may be: a number of a kind, yes or no by 1 or 0, and a budget that can be set
pub record AreOptions (options : Options) : Type 0 where
  pub kind : options.kind < 6
  pub keyed : options.keyed < 2
  pub order : options.order < 2
  pub json : options.json < 2
  pub least : 1 ≤ options.budget
  pub most : options.budget ≤ 1000000

-- what a run is told: however few events there are, it answers
abbrev pub settings_of : Options → Settings
settings_of options = record { kind = kind_numbered options.kind; keyed = options.keyed == 1; budget = options.budget; at_least = 0 }

abbrev pub format_of : Options → ReportFormat
format_of options = if options.json == 1 then Json else Text

-- the key that a text names, if any; the empty text stands for none
abbrev pub IsKeyText : List ℕ → Option Spelled → Type 0
IsKeyText text key = ((text ≡ []) × (key ≡ None)) ⊎ ((text ≢ []) × (key ≢ None) × (key ≡ item_written text))

-- a text that is neither empty nor names a key
abbrev pub NamesNone : List ℕ → Type 0
NamesNone text = (text ≢ []) × (item_written text ≡ None)

-- what is asked: about the object of the key that a text names, or the whole
pub record IsQuestion (options : Options) (key : List ℕ) (question : Question) : Type 0 where
  pub asks : IsKeyText key (option_map seen question.key)
  pub no_others : question.all_keys ≡ false
  pub order : question.with_order ≡ (options.order == 1)
  pub format : question.format ≡ format_of options
