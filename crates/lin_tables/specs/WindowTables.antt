-- Tables of operations: which are shown, in which order they are chosen, and the words of their lines.
use Rattle.std.specs.Prelude.{◌≡◌, ◌≢◌, ◌<◌, ◌≤◌, ◌⊎◌, ◌↔◌, ℕ, zero, suc, List, [], ◌++◌, AllPairs, Contains, Option, Some, None, codes, decimal, length, option_map, slice_get, unwrap_or}
use Rattle.std.specs.List.{AllZip}
use Rattle.lin_events.specs.declared.items.Item.{Item}
use Rattle.lin_events.specs.declared.calls.Call.{Call}
use Rattle.lin_events.specs.declared.calls.Reply.{Reply}
use Rattle.lin_events.specs.declared.events.Event.{Event}
use Rattle.lin_events.specs.Operations.{IsOperation}
use Rattle.lin_texts.specs.declared.place.Place.{Place}
use Rattle.lin_tables.specs.Operations.{operation_text}
use Rattle.lin_tables.specs.Spots.{span_at}
use Rattle.lin_tables.specs.Tables.{range_text, span_text, table_text}
use Rattle.lin_tables.specs.declared.tables.TableRow.{TableRow}
use Rattle.lin_tables.specs.WindowOperations.{IsBeside, IsInvoked, IsOpenAt, IsOutcome}
use Rattle.lin_tables.specs.declared.failing_operations.Outcome.{Outcome}
use Rattle.lin_tables.specs.declared.failing_operations.Outcome.TheVariants as Stands
use Rattle.lin_tables.specs.declared.marks.Chosen.{Chosen}
use Rattle.lin_tables.specs.declared.marks.ListedOperations.{ListedOperations}
use Rattle.lin_tables.specs.declared.marks.ListedOperations.TheVariants.{Around, Open}
use Rattle.lin_tables.specs.declared.marks.Mark.{Mark}
use Rattle.lin_tables.specs.declared.marks.Mark.TheVariants.{Failing, Named, Beside, Other}
use Rattle.lin_tables.specs.declared.rows.Stretch.{Stretch}

-- the spellings of words, an object's events, the position of each in the whole history, and where the events of that stand in the file, if
-- there is one
pub record Told : Type 0 where
  pub names : List (List ℕ)
  pub events : List Event
  pub picks : List ℕ
  pub places : Option (List Place)

abbrev pub told_of : Stretch → Told
told_of s = record { names = s.names.now; events = s.events.now; picks = s.picks.now; places = option_map (λ p. p.now) s.places }

-- which operations a table lists: those that are open, or those around the failing one that was invoked at `call`: it, those that are named,
-- those beside it, and the others from a place on
pub data Listing : Type 0 where
  open_ones : Listing
  around : (call from : ℕ) (named : List ℕ) → Listing

abbrev pub listing_of : ListedOperations → Listing
listing_of Open = open_ones
listing_of (Around w) = around w.call w.from w.named.now

-- the marks in the order in which operations are chosen by them
abbrev pub order_of : Mark → ℕ
order_of Failing = 0
order_of Named = 1
order_of Beside = 2
order_of Other = 3

-- the characters !, *, ~ and a space
abbrev pub mark_code : Mark → ℕ
mark_code Failing = 33
mark_code Named = 42
mark_code Beside = 126
mark_code Other = 32

-- the mark fits the operation: it is the failing one, it is named, it ran beside that, or it was invoked at `from` or later
abbrev pub Fits : List Event → ℕ → ℕ → List ℕ → ℕ → Mark → Type 0
Fits h call from named at Failing = at ≡ call
Fits h call from named at Named = Contains named at
Fits h call from named at Beside = IsBeside h call at
Fits h call from named at Other = from ≤ at

-- the first mark that fits
pub record IsFirstMark (fits : Mark → Type 0) (mark : Mark) : Type 0 where
  pub does : fits mark
  pub first : (earlier : Mark) → order_of earlier < order_of mark → fits earlier → ⊥

-- the operation belongs in the table, with this mark
abbrev pub HasMark : List Event → Listing → ℕ → Mark → Type 0
HasMark h open_ones at mark = IsOpenAt h at × (mark ≡ Other)
HasMark h (around call from named) at mark = IsInvoked h at × IsFirstMark (Fits h call from named at) mark

-- by their marks, and of one mark the last invoked first
abbrev pub IsNearer : Chosen → Chosen → Type 0
IsNearer one other = (order_of one.mark < order_of other.mark) ⊎ ((order_of one.mark ≡ order_of other.mark) × (other.at < one.at))

-- the one is chosen before the other: of open ones the one that was invoked first
abbrev pub IsAhead : Listing → Chosen → Chosen → Type 0
IsAhead open_ones one other = one.at < other.at
IsAhead (around call from named) one other = IsNearer one other

abbrev pub IsEarlier : Chosen → Chosen → Type 0
IsEarlier one other = one.at < other.at

-- Of those that are such, at most eight are shown, in the order of their invocations; the others are left out, only where eight are
-- shown, and each of them behind each that is shown.
pub record IsChoice (such : Chosen → Type 0) (listed : Listing) (shown left : List Chosen) : Type 0 where
  pub all : (x : Chosen) → such x ↔ (Contains shown x ⊎ Contains left x)
  pub rising : AllPairs IsEarlier shown
  pub once : AllPairs ◌≢◌ left
  pub apart : (x : Chosen) → Contains shown x → Contains left x → ⊥
  pub behind : (x y : Chosen) → Contains left x → Contains shown y → IsAhead listed y x
  pub few : length shown ≤ 8
  pub full : (left ≡ []) ⊎ (length shown ≡ 8)

-- where the operation ended, its reply if it is ok, and what is said behind it
abbrev pub end_in : Outcome → Option ℕ
end_in (Stands.Returned end reply) = Some end
end_in (Stands.Failed end) = Some end
end_in (Stands.Crashed end) = Some end
end_in Stands.Open = None

abbrev pub reply_in : Outcome → Option Reply
reply_in (Stands.Returned end reply) = Some reply.now
reply_in (Stands.Failed end) = None
reply_in (Stands.Crashed end) = None
reply_in Stands.Open = None

abbrev pub outcome_text : Outcome → List ℕ
outcome_text (Stands.Returned end reply) = []
outcome_text (Stands.Failed end) = codes ", failed"
outcome_text (Stands.Crashed end) = codes ", crashed"
outcome_text Stands.Open = codes ", open"

-- the position in the whole history of the event at a place
abbrev pub position_in : List ℕ → ℕ → ℕ
position_in picks at = unwrap_or (slice_get picks at) 0

-- the positions of the invocation and of the end, where these stand in the file, and the operation with what became of it
pub record IsRow (s : Told) (x : Chosen) (row : TableRow) : Type 0 where
  pub process : ℕ
  pub key : Item
  pub call : Call
  pub outcome : Outcome
  pub begins : IsOperation s.events x.at process key call
  pub stands : IsOutcome s.events x.at outcome
  pub marked : row.mark ≡ mark_code x.mark
  pub range : row.range.items ≡ range_text (position_in s.picks x.at) (option_map (position_in s.picks) (end_in outcome))
  pub span : row.span.items ≡ span_text (span_at s.places (position_in s.picks x.at) (option_map (position_in s.picks) (end_in outcome)))
  pub words : row.words.items ≡ operation_text s.names process call (reply_in outcome) ++ outcome_text outcome

-- how many are left out, where any are
abbrev pub more_text : ℕ → List ℕ
more_text zero = []
more_text (suc more) = codes "  and " ++ decimal (suc more) ++ codes " more\n"

-- a line for each operation that is shown, and how many are left out
pub record IsTable (s : Told) (listed : Listing) (text : List ℕ) : Type 0 where
  pub shown : List Chosen
  pub left : List Chosen
  pub rows : List TableRow
  pub chosen : IsChoice (λ x. HasMark s.events listed x.at x.mark) listed shown left
  pub lines : AllZip (IsRow s) shown rows
  pub is : text ≡ table_text rows ++ more_text (length left)
