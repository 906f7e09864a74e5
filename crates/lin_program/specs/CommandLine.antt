-- The command line, as `clap` defines it for this program.
use Rattle.std.specs.Prelude.{◌≡◌, ◌⊎◌, ◌<◌, ◌+◌, ℕ, Bool, List, [], ◌∷◌, ◌++◌, Some, None, Option, ⊤, is_ok, nat_lt, option_and_then, option_map, unwrap_or, count_by, length, map, true, false, codes, if◌then◌else◌}
use Rattle.std.specs.Str.{bytes_eq}
use Rattle.std.specs.Str.Parse.{digits_value, without_leading_plus}
use Rattle.clap.specs.Lexer.{usize_max}
use Rattle.clap.specs.Words.{App, Rule, Row, Text, all_of, new_app, new_rule, with_rule, with_subcommand, first_of, subcommand_of, HasKind, fault_of, kind_of, IsUnsignedIn}
use Rattle.clap.specs.declared.builder.action.ArgAction.TheVariants.{Set, SetTrue, Append}
use Rattle.clap.specs.declared.builder.value_parser.ValueParser.{ValueParser}
use Rattle.clap.specs.declared.builder.value_parser.ValueParser.TheVariants.{Names, Unsigned}
use Rattle.clap.specs.declared.error.Error.{Error}
use Rattle.clap.specs.declared.error.kind.ErrorKind.{ErrorKind}
use Rattle.clap.specs.declared.error.kind.ErrorKind.TheVariants.{ArgumentConflict, MissingRequiredArgument, OutOfMemory, ValueValidation}
use Rattle.lin_texts.specs.Items.{item_written}
use Rattle.lin_texts.specs.Kinds.{kind_named, kind_words}
use Rattle.lin_texts.specs.Orders.{order_written}
use Rattle.lin_texts.specs.declared.settings.Settings.{Settings}
use Rattle.lin_names.specs.Spelled.{seen}
use Rattle.lin_names.specs.declared.said.Said.{Said}
use Rattle.lin_program.specs.declared.misuse.NoLine.{NoLine}
use Rattle.lin_program.specs.declared.misuse.NoLine.TheVariants.{NoOrder, TwoOrders, InputTwice, NoKey, Unsaid}
use Rattle.lin_program.specs.declared.words.Format.{Format}
use Rattle.lin_program.specs.declared.words.Format.TheVariants as format
use Rattle.lin_program.specs.declared.words.OrderSource.{OrderSource}
use Rattle.lin_program.specs.declared.words.OrderSource.TheVariants.{Given, InFile}
use Rattle.lin_program.specs.declared.words.Line.{Line}
use Rattle.lin_program.specs.declared.words.Line.TheVariants.{Verify, Check, Explain, Draw, Edit}

-- the words for the ways in which an answer is printed
abbrev pub format_words : List Text
format_words = codes "text" ∷ codes "json" ∷ []

abbrev pub format_named : Text → Option Format
format_named word = if bytes_eq word (codes "text") then Some format.Text else (if bytes_eq word (codes "json") then Some format.Json else None)

-- just these words pass
abbrev pub AreNames : List Text → ValueParser → Type 0
AreNames words (Names names) = map (λ name. name.now) names.now ≡ words
AreNames words _ = ⊥

-- what is known to pass as a kind, and as a way of printing
pub record Parsers : Type 0 where
  pub kinds : ValueParser
  pub formats : ValueParser

abbrev pub AreParsers : Parsers → Type 0
AreParsers parsers = AreNames kind_words parsers.kinds × AreNames format_words parsers.formats

-- the option that names a kind; its parser knows the words
abbrev pub kind_rule : ValueParser → Rule
kind_rule parser = record (new_rule (codes "kind")) { value_names = 1; long = Some (codes "kind"); action = Some Set; defaults = codes "register" ∷ []; parser = Some parser }

abbrev pub keyed_rule : Rule
keyed_rule = record (new_rule (codes "keyed")) { long = Some (codes "keyed"); action = Some SetTrue }

abbrev pub file_rule : Rule
file_rule = record (new_rule (codes "file")) { value_names = 1; action = Some Set; required = true }

-- one word or more, in any number of places among the options
abbrev pub files_rule : Rule
files_rule = record (new_rule (codes "file")) { value_names = 1; action = Some Append; required = true; range = Some (record { start_inclusive = 1; end_inclusive = usize_max }) }

abbrev pub optional_file_rule : Rule
optional_file_rule = record (new_rule (codes "file")) { value_names = 1; action = Some Set }

abbrev pub order_file_rule : Rule
order_file_rule = record (new_rule (codes "order-file")) { value_names = 1; long = Some (codes "order-file"); action = Some Set }

-- the number that the text spells, with or without a `+` before its digits, where it is 1 to 1,000,000
abbrev pub SpellsCount : Text → ℕ → Type 0
SpellsCount text n = IsUnsignedIn 1 1000000 text × (n ≡ digits_value 10 (without_leading_plus text))

abbrev pub budget_rule : Rule
budget_rule = record (new_rule (codes "budget")) { value_names = 1; long = Some (codes "budget"); action = Some Set; defaults = codes "65536" ∷ []; parser = Some (Unsigned 1 1000000) }

-- the option that names how many events of clients a file has to have at least
abbrev pub least_rule : Rule
least_rule = record (new_rule (codes "at-least")) { value_names = 1; long = Some (codes "at-least"); action = Some Set; parser = Some (Unsigned 1 1000000) }

-- the option that names how many operations are drawn at most
abbrev pub last_rule : Rule
last_rule = record (new_rule (codes "last")) { value_names = 1; long = Some (codes "last"); action = Some Set; parser = Some (Unsigned 1 1000) }

-- the flag that asks for each object that isn't a yes
abbrev pub all_keys_rule : Rule
all_keys_rule = record (new_rule (codes "all-keys")) { long = Some (codes "all-keys"); action = Some SetTrue }

abbrev pub key_rule : Rule
key_rule = record (new_rule (codes "key")) { value_names = 1; long = Some (codes "key"); action = Some Set }

abbrev pub order_flag_rule : Rule
order_flag_rule = record (new_rule (codes "order")) { long = Some (codes "order"); action = Some SetTrue }

-- the option that names a way of printing; its parser knows the words
abbrev pub format_rule : ValueParser → Rule
format_rule parser = record (new_rule (codes "format")) { value_names = 1; long = Some (codes "format"); action = Some Set; defaults = codes "text" ∷ []; parser = Some parser }

-- a command with the options that each command has
abbrev pub with_options : ValueParser → App → App
with_options parser app = with_rule (with_rule (with_rule app (kind_rule parser)) keyed_rule) budget_rule

-- and with those of each command that tells of a file what it found
abbrev pub with_report_options : ValueParser → App → App
with_report_options parser app = with_rule (with_options parser app) least_rule

abbrev pub check_app : Parsers → App
check_app parsers = with_report_options parsers.kinds (with_rule (with_rule (new_app (codes "check")) files_rule) (format_rule parsers.formats))

abbrev pub explain_app : Parsers → App
explain_app parsers = with_report_options parsers.kinds
    (with_rule (with_rule (with_rule (with_rule (with_rule (new_app (codes "explain")) file_rule) key_rule) all_keys_rule) order_flag_rule) (format_rule parsers.formats))

abbrev pub draw_app : ValueParser → App
draw_app parser = with_report_options parser (with_rule (with_rule (with_rule (new_app (codes "draw")) file_rule) key_rule) last_rule)

abbrev pub verify_app : ValueParser → App
verify_app parser = with_options parser (with_rule (with_rule (new_app (codes "verify")) files_rule) order_file_rule)

abbrev pub edit_app : ValueParser → App
edit_app parser = with_options parser (with_rule (new_app (codes "edit")) optional_file_rule)

-- without a command, a program of this name with a version
abbrev pub lincheck_app : App
lincheck_app = let bare = new_app (codes "lincheck") in record bare { top = record bare.top { subcommand_required = true; has_version = true } }

-- the program, with its five commands
abbrev pub program_app : Parsers → App
program_app parsers = with_subcommand (with_subcommand (with_subcommand (with_subcommand (with_subcommand lincheck_app (check_app parsers).top) (explain_app parsers).top)
    (draw_app parsers.kinds).top) (verify_app parsers.kinds).top) (edit_app parsers.kinds).top

-- the flag's value is the word for yes
abbrev pub is_given : Option Text → Bool
is_given None = false
is_given (Some word) = bytes_eq word (codes "true")

-- the number that the text spells, or 0 where there is none
abbrev pub IsLeast : Option Text → ℕ → Type 0
IsLeast None n = n ≡ 0
IsLeast (Some text) n = SpellsCount text n

-- the number that the text spells, if there is one
abbrev pub GivesLast : List Row → Option ℕ → Type 0
GivesLast rows None = first_of (codes "last") rows ≡ None
GivesLast rows (Some n) = (text : Text) × (first_of (codes "last") rows ≡ Some text) × SpellsCount text n

-- the settings are what the matches say: a kind, whether values are keyed, a budget, and how many events are wanted at least
abbrev pub HasSettings : List Row → Settings → Type 0
HasSettings rows settings =
    (option_and_then kind_named (first_of (codes "kind") rows) ≡ Some settings.kind) × (settings.keyed ≡ is_given (first_of (codes "keyed") rows))
    × ((text : Text) × (first_of (codes "budget") rows ≡ Some text) × SpellsCount text settings.budget)
    × IsLeast (first_of (codes "at-least") rows) settings.at_least

-- the text that the matches give for the name
abbrev pub GivesText : List Row → Text → Option Text → Type 0
GivesText rows name text = first_of name rows ≡ text

-- all texts that the matches give for the name, in their order
abbrev pub texts_of : Text → List Row → List Text
texts_of name rows = unwrap_or (all_of name rows) []

-- the matches give no word for a key, or one that says this item
abbrev pub GivesKey : List Row → Option Said → Type 0
GivesKey rows None = GivesText rows (codes "key") None
GivesKey rows (Some key) = (text : Text) × GivesText rows (codes "key") (Some text) × (item_written text ≡ Some (seen key))

-- the matches name this way of printing
abbrev pub GivesFormat : List Row → Format → Type 0
GivesFormat rows format = option_and_then format_named (first_of (codes "format") rows) ≡ Some format

-- how many of the names are that of standard input
abbrev pub input_count : List Text → ℕ
input_count names = count_by (λ name. bytes_eq name (codes "-")) names

-- more than one of the words that may name a file names standard input
abbrev pub names_input_twice : List Row → Bool
names_input_twice rows = nat_lt 1 (input_count (texts_of (codes "file") rows) + input_count (texts_of (codes "order-file") rows))

-- the words are one or more, and then the text of an order
abbrev pub EndInOrder : List Text → Type 0
EndInOrder words = (names : List Text) × (text : Text) × (words ≡ names ++ text ∷ []) × (0 < length names) × (is_ok (order_written text) ≡ true)

-- The order and the names of files that words say: where an order file is named, each word names a file, and the last of several isn't the
-- text of an order; else the last word is the order.
abbrev pub SayOrder : List Text → Option Text → OrderSource → List Text → Type 0
SayOrder words (Some name) (InFile path) files = (path.now ≡ name) × (files ≡ words) × (EndInOrder words → ⊥)
SayOrder words None (Given order) files = words ≡ files ++ order.now ∷ []
SayOrder words _ _ files = ⊥

-- these are the names of files, one at least, and standard input isn't named twice
abbrev pub AreFiles : List Row → List Text → Type 0
AreFiles rows files = (0 < length files) × (names_input_twice rows ≡ false)

-- The line is what a command and its matches say: `check` with files and a way of printing; `explain` with a file, a key or none, whether all
-- keys and whether an order is wanted, and a way of printing; `draw` with a file, a key or none, and how many operations are drawn, if that is
-- said; `verify` with files and an order; or `edit`, with a file or none; each with its settings.
abbrev pub Says : Text × List Row → Line → Type 0
Says found (Check settings format files) =
    (found.0 ≡ codes "check") × (map (λ name. name.now) files.items ≡ texts_of (codes "file") found.1) × AreFiles found.1 (texts_of (codes "file") found.1) × GivesFormat found.1 format × HasSettings found.1 settings
Says found (Explain settings key all_keys with_order format file) =
    (found.0 ≡ codes "explain") × GivesText found.1 (codes "file") (Some file.now) × GivesKey found.1 key × (all_keys ≡ is_given (first_of (codes "all-keys") found.1))
    × (with_order ≡ is_given (first_of (codes "order") found.1)) × GivesFormat found.1 format × HasSettings found.1 settings
Says found (Draw settings key last file) =
    (found.0 ≡ codes "draw") × GivesText found.1 (codes "file") (Some file.now) × GivesKey found.1 key × GivesLast found.1 last × HasSettings found.1 settings
Says found (Verify settings order files) =
    (found.0 ≡ codes "verify") × SayOrder (texts_of (codes "file") found.1) (first_of (codes "order-file") found.1) order (map (λ name. name.now) files.items)
    × AreFiles found.1 (map (λ name. name.now) files.items) × HasSettings found.1 settings
Says found (Edit settings file) = (found.0 ≡ codes "edit") × GivesText found.1 (codes "file") (option_map (λ name. name.now) file) × HasSettings found.1 settings

-- the matches give a word for a key that says no item
abbrev pub LacksKey : List Row → Type 0
LacksKey rows = (text : Text) × GivesText rows (codes "key") (Some text) × (item_written text ≡ None)

-- Why a command and its matches say no line: `verify` has neither an order nor an order file, or both; standard input is named twice; or the
-- word for a key is no item.
abbrev pub IsUnsaid : Text × List Row → NoLine → Type 0
IsUnsaid found NoOrder = (found.0 ≡ codes "verify") × GivesText found.1 (codes "order-file") None × (length (texts_of (codes "file") found.1) < 2)
IsUnsaid found TwoOrders = (found.0 ≡ codes "verify") × ((name : Text) × GivesText found.1 (codes "order-file") (Some name)) × EndInOrder (texts_of (codes "file") found.1)
IsUnsaid found InputTwice = names_input_twice found.1 ≡ true
IsUnsaid found NoKey = LacksKey found.1
IsUnsaid found Unsaid = ⊤

abbrev pub refusal_kind : NoLine → ErrorKind
refusal_kind NoOrder = MissingRequiredArgument
refusal_kind TwoOrders = ArgumentConflict
refusal_kind InputTwice = ArgumentConflict
refusal_kind NoKey = ValueValidation
refusal_kind Unsaid = OutOfMemory

-- the matches name no kind, lack a budget, or have another text than one that spells how many events are wanted at least
abbrev pub LacksSettings : List Row → Type 0
LacksSettings rows = (option_and_then kind_named (first_of (codes "kind") rows) ≡ None) ⊎ ((text : Text) (n : ℕ) → GivesText rows (codes "budget") (Some text) → SpellsCount text n → ⊥)
    ⊎ ((n : ℕ) → IsLeast (first_of (codes "at-least") rows) n → ⊥)

-- the words have no fault, and this is the command that they name, with its matches
abbrev pub Finds : Parsers → List Text → Text × List Row → Type 0
Finds parsers words found = (fault_of (program_app parsers) words ≡ []) × (subcommand_of (program_app parsers) words ≡ Some found)

-- Memory ran out; or the error is one that `clap` defines for the program at these words; or `clap` takes them, and they say no line for
-- this reason.
abbrev pub IsRefusalOf : List Text → Error → Type 0
IsRefusalOf words e = (kind_of e ≡ OutOfMemory)
    ⊎ ((parsers : Parsers) × AreParsers parsers × HasKind (fault_of (program_app parsers) words) e)
    ⊎ ((parsers : Parsers) × AreParsers parsers × (found : Text × List Row) × Finds parsers words found × (why : NoLine) × IsUnsaid found why × (kind_of e ≡ refusal_kind why))

-- the line is what `clap` defines for the program from these words, the program's name first, and they have no fault there
abbrev pub IsLineOf : List Text → Line → Type 0
IsLineOf words line = (parsers : Parsers) × AreParsers parsers × (found : Text × List Row) × Finds parsers words found × Says found line
