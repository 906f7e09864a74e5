-- The commands that lines write: a word, and behind it numbers, a key, a word for a kind, or one operation map.
use Rattle.std.specs.Prelude.{◌≡◌, ◌≢◌, ◌⊎◌, ℕ, ◌+◌, ◌-◌, ◌^◌, ◌==◌, nat_lt, Bool, List, [], ◌∷◌, length, take, drop, slice_index, Option, None, Some, Result, Ok, Err, codes, ⊤, if◌then◌else◌}
use Rattle.std.specs.Str.{bytes_eq}
use Rattle.lin_edn.specs.Grammar.{Spells, IsBlankText, IsUnfinished}
use Rattle.lin_edn.specs.Reading.{Refuses}
use Rattle.lin_edn.specs.Value.{Value}
use Rattle.lin_edn.specs.declared.EdnCause.{EdnCause}
use Rattle.lin_edn.specs.declared.EdnCause.TheVariants as edn
use Rattle.lin_history.specs.Reading.{IsReading, Reading}
use Rattle.lin_history.specs.Table.{event}
use Rattle.lin_events.specs.declared.events.Event.{Event as EventOf}
use Rattle.lin_events.specs.declared.items.Item.{Item}
use Rattle.lin_history.specs.declared.table.EventFault.{EventFault}
use Rattle.lin_names.specs.Names.{Numbering}
use Rattle.lin_names.specs.Spelled.{numbered}
use Rattle.lin_objects.specs.declared.kinds.Kind.{Kind}
use Rattle.lin_answers.specs.declared.answers.Scope.{Scope}
use Rattle.lin_answers.specs.declared.answers.Scope.TheVariants as scope
use Rattle.lin_answers.specs.declared.edits.Edit.{Edit as EditOf}
use Rattle.lin_answers.specs.declared.edits.Edit.TheVariants as edit
use Rattle.lin_texts.specs.Integers.{number_of}
use Rattle.lin_texts.specs.Items.{item_written}
use Rattle.lin_texts.specs.Kinds.{kind_named}
use Rattle.lin_texts.specs.Parts.{Part, words_from}
use Rattle.lin_report.specs.declared.commands.Command.{Command}
use Rattle.lin_report.specs.declared.commands.Command.TheVariants.{Edit, Skipped, Ask, Order, Report, Pull, Refute, Explain, Work}
use Rattle.lin_report.specs.declared.commands.CommandFault.{CommandFault}
use Rattle.lin_report.specs.declared.commands.CommandFault.TheVariants.{UnknownCommand, BadWords, BadNumber, BadKind, NotOneMap, LineTooLong, Edn, Event, OutOfMemory}
use Rattle.lin_report.specs.declared.senses.Sense.{Sense}
use Rattle.lin_report.specs.declared.senses.Sense.TheVariants as sense
use Rattle.lin_report.specs.declared.senses.Target.{Target}
use Rattle.lin_report.specs.declared.senses.Target.TheVariants as target
use Rattle.lin_report.specs.declared.senses.Verb.{Verb}
use Rattle.lin_report.specs.declared.senses.Verb.TheVariants as verb

-- what a word stands for, by a list of rows
abbrev pub stands_for : {A : Type 0} → List (List ℕ × A) → List ℕ → Option A
stands_for [] word = None
stands_for (row ∷ rows) word = if bytes_eq word row.0 then Some row.1 else stands_for rows word

-- the words that a line may begin with
abbrev pub verb_of : List ℕ → Option Verb
verb_of = stands_for (
    (codes "append", verb.Append) ∷
    (codes "replace", verb.Replace) ∷
    (codes "remove", verb.Remove) ∷
    (codes "truncate", verb.Truncate) ∷
    (codes "kind", verb.Kind) ∷
    (codes "budget", verb.Budget) ∷
    (codes "ask", verb.Ask) ∷
    (codes "order", verb.Order) ∷
    (codes "report", verb.Report) ∷
    (codes "pull", verb.Pull) ∷
    (codes "refute", verb.Refute) ∷
    (codes "explain", verb.Explain) ∷
    (codes "work", verb.Work) ∷ [])

-- one test after another: what is none has its fault
abbrev pub or_refused : {A B : Type 0} → CommandFault → Option A → (A → Result B CommandFault) → Result B CommandFault
or_refused fault None more = Err fault
or_refused fault (Some x) more = more x

-- what is made of what was read; a fault stays
abbrev pub made_of : {A B : Type 0} → (A → B) → Result A CommandFault → Result B CommandFault
made_of make (Ok x) = Ok (make x)
made_of make (Err fault) = Err fault

-- the place behind a word
abbrev pub end_of : Part → ℕ
end_of word = word.at + length word.text

-- the word, where there is just one
abbrev pub only : List Part → Option Part
only (word ∷ []) = Some word
only _ = None

-- the words, where there are just two
abbrev pub both : List Part → Option (Part × Part)
both (word ∷ next ∷ []) = Some (word, next)
both _ = None

-- nothing, where there is no word
abbrev pub no_more : List Part → Result (Unit {0}) CommandFault
no_more [] = Ok tt
no_more _ = Err BadWords

-- the number that the only word writes
abbrev pub number_in : ℕ → List Part → Result ℕ CommandFault
number_in most words =
    or_refused BadWords (only words) (λ word.
    or_refused BadNumber (number_of most word.text) (λ n. Ok n))

-- what `replace` says: behind the number stands a map
abbrev pub replacement : List Part → Result Sense CommandFault
replacement [] = Err BadWords
replacement (word ∷ words) = or_refused BadNumber (number_of (2 ^ 64 - 1) word.text) (λ n. Ok (sense.Map (target.At n) (end_of word)))

-- a command made of what was read
abbrev pub plain : {A : Type 0} → (A → Command) → Result A CommandFault → Result Sense CommandFault
plain make read = made_of (λ x. sense.Plain (make x)) read

-- by a numbering of spellings, on which no refusal depends
module _ (number : Numbering) where
  -- the key that the only word writes
  abbrev pub key_in : List Part → Result Item CommandFault
  key_in words =
      or_refused BadWords (only words) (λ word.
      or_refused BadNumber (item_written word.text) (λ key. Ok (numbered number key)))

  -- what a question is about: the object of the key that the only word writes, or the whole where there is none
  abbrev pub scope_in : List Part → Result Scope CommandFault
  scope_in [] = Ok scope.Whole
  scope_in (first ∷ words) = made_of scope.Object (key_in (first ∷ words))

  -- a key and its kind
  abbrev pub key_and_kind : List Part → Result (Item × Kind) CommandFault
  key_and_kind words =
      or_refused BadWords (both words) (λ (key, word).
      or_refused BadNumber (item_written key.text) (λ k.
      or_refused BadKind (kind_named word.text) (λ kind. Ok (numbered number k, kind))))

  -- what the words behind the first one say, which ends at a place: first their number is tested, then each from left to right
  abbrev pub sense_behind : Verb → ℕ → List Part → Result Sense CommandFault
  sense_behind verb.Append end words = Ok (sense.Map target.Last end)
  sense_behind verb.Replace end words = replacement words
  sense_behind verb.Remove end words = plain (λ n. Edit (edit.Remove n)) (number_in (2 ^ 64 - 1) words)
  sense_behind verb.Truncate end words = plain (λ n. Edit (edit.Truncate n)) (number_in (2 ^ 64 - 1) words)
  sense_behind verb.Kind end words = plain (λ (key, kind). Edit (edit.SetKind key kind)) (key_and_kind words)
  sense_behind verb.Budget end words = plain (λ n. Edit (edit.SetBudget n)) (number_in (2 ^ 32 - 1) words)
  sense_behind verb.Ask end words = plain Ask (scope_in words)
  sense_behind verb.Order end words = plain Order (scope_in words)
  sense_behind verb.Report end words = plain (λ nothing. Report) (no_more words)
  sense_behind verb.Pull end words = plain (λ nothing. Pull) (no_more words)
  sense_behind verb.Refute end words = plain Refute (key_in words)
  sense_behind verb.Explain end words = plain Explain (scope_in words)
  sense_behind verb.Work end words = plain (λ nothing. Work) (no_more words)

  -- what the words of a line say
  abbrev pub sense_of : List Part → Result Sense CommandFault
  sense_of [] = Ok sense.Nothing
  sense_of (word ∷ words) = or_refused UnknownCommand (verb_of word.text) (λ verb. sense_behind verb (end_of word) words)

-- the edit that an event makes: it is put last, or in the place of another
abbrev pub edit_at : Target → EventOf → EditOf
edit_at target.Last e = edit.Append e
edit_at (target.At n) e = edit.Replace n e

-- the command that an operation map makes; one of the nemesis is skipped
abbrev pub command_of : Target → Result (Option EventOf) EventFault → Result (Option Command) CommandFault
command_of t (Ok (Some e)) = Ok (Some (Edit (edit_at t e)))
command_of t (Ok None) = Ok (Some Skipped)
command_of t (Err fault) = Err (Event fault)

-- What a text says that stands from a place of the line on: one element, and behind it blanks and at most an unfinished comment.
pub data IsMapCommand (m : Reading) (t : Target) (at : ℕ) (text : List ℕ) : Result (Option Command) CommandFault → Type 0 where
  -- a fault of EDN in the element or before it; its place counts from the line's first byte
  faulty : (p : ℕ) (cause : EdnCause) → Refuses text p cause → cause ≢ edn.OutOfMemory →
      IsMapCommand m t at text (Err (Edn (record { at = at + p; cause = cause })))
  -- an element, or a discard before it, that is not whole
  unfinished : (p : ℕ) → IsUnfinished text p → IsMapCommand m t at text (Err NotOneMap)
  -- no element
  missing : (used : ℕ) → IsBlankText text used → IsMapCommand m t at text (Err NotOneMap)
  -- an element with something behind it
  followed : (v : Value) (p used : ℕ) → Spells text v p used → ((n : ℕ) → IsBlankText (drop used text) n → ⊥) →
      IsMapCommand m t at text (Err NotOneMap)
  -- an element alone
  one_map : (v : Value) (p used n : ℕ) → Spells text v p used → IsBlankText (drop used text) n →
      IsMapCommand m t at text (command_of t (event m v))

-- what a line says whose words say this
abbrev pub IsSaid : Reading → List ℕ → Result Sense CommandFault → Result (Option Command) CommandFault → Type 0
IsSaid m line (Err fault) answer = answer ≡ Err fault
IsSaid m line (Ok sense.Nothing) answer = answer ≡ Ok None
IsSaid m line (Ok (sense.Plain command)) answer = answer ≡ Ok (Some command)
IsSaid m line (Ok (sense.Map t at)) answer = IsMapCommand m t at (drop at line) answer

-- a line without one byte 13 at its end
abbrev pub without_return : List ℕ → List ℕ
without_return line = if slice_index line (length line - 1) == 13 then take (length line - 1) line else line

-- the greatest length of a line without its end
abbrev pub longest_line : ℕ
longest_line = 1048576

-- what the words of a whole line say; a line that is too long is not looked at
abbrev pub sense_of_line : Numbering → List ℕ → Result Sense CommandFault
sense_of_line number line = if nat_lt longest_line (length line) then Err LineTooLong else sense_of number (words_from 0 (without_return line))

-- What a line says, given without its end: none where it has no word, a command, or why it is refused. With keys or without.
abbrev pub IsCommand : Reading → List ℕ → Result (Option Command) CommandFault → Type 0
IsCommand m line answer = IsSaid m (without_return line) (sense_of_line m.number line) answer

-- what it says by these names: by each numbering that agrees with them
abbrev pub IsCommandBy : Bool → List (List ℕ) → List ℕ → Result (Option Command) CommandFault → Type 0
IsCommandBy keyed names line answer = (m : Reading) → IsReading keyed names m → IsCommand m line answer

-- it names the object of a key
abbrev pub HasKey : Command → Type 0
HasKey (Edit (edit.SetKind key kind)) = ⊤
HasKey (Ask (scope.Object key)) = ⊤
HasKey (Order (scope.Object key)) = ⊤
HasKey (Refute key) = ⊤
HasKey (Explain (scope.Object key)) = ⊤
HasKey _ = ⊥

-- it takes memory: the elements of a map do, and a key, which may be a word that had no number
abbrev pub TakesMemory : Sense → Type 0
TakesMemory sense.Nothing = ⊥
TakesMemory (sense.Plain command) = HasKey command
TakesMemory (sense.Map t at) = ⊤

-- what is read of a line: what it says; or, where it has a place for a map or a key, that memory was refused
abbrev pub IsRead : Reading → List ℕ → Result (Option Command) CommandFault → Type 0
IsRead m line answer = IsCommand m line answer ⊎ ((s : Sense) × (sense_of_line m.number line ≡ Ok s) × TakesMemory s × (answer ≡ Err OutOfMemory))
