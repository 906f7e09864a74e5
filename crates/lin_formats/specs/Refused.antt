-- What is told of a file that is refused.
use Rattle.std.specs.Prelude.{ℕ, List, [], ◌++◌, Option, Some, None, codes, decimal}
use Rattle.lin_edn.specs.declared.EdnCause.{EdnCause}
use Rattle.lin_edn.specs.declared.EdnCause.TheVariants as edn
use Rattle.lin_history.specs.declared.table.EventFault.{EventFault}
use Rattle.lin_history.specs.declared.table.EventFault.TheVariants as event
use Rattle.lin_formats.specs.declared.verdicts.Refusal.{Refusal}
use Rattle.lin_formats.specs.declared.verdicts.Refusal.TheVariants.{Edn, Event, Truncated, Full, BadPair, Few}
use Rattle.lin_formats.specs.Places.{Marked, bad_of, unfinished_of}
use Rattle.lin_texts.specs.declared.place.Place.{Place}

-- what is asked of the bytes
abbrev pub edn_sentence : EdnCause → List ℕ
edn_sentence edn.Unbalanced = codes "this bracket closes none, or not the one that is open"
edn_sentence edn.OddMap = codes "this ends a map whose last key has no value"
edn_sentence edn.TooDeep = codes "this is the 65th level of nesting, and 64 are read"
edn_sentence edn.TooLong = codes "this element, comment or discard has more than 16777216 bytes"
edn_sentence edn.OutOfMemory = []

-- what is asked of a map
abbrev pub event_sentence : EventFault → List ℕ
event_sentence event.NotAMap = codes "each element has to be a map, or a vector or list of maps"
event_sentence event.DuplicateKey = codes "one of :process, :type, :f and :value stands twice in this map"
event_sentence event.Missing = codes "this map lacks :process, :type or :f"
event_sentence event.BadProcess = codes ":process has to be an integer of at least 0, or the keyword of a nemesis"
event_sentence event.BadType = codes ":type has to be :invoke, :ok, :fail or :info"
event_sentence event.BadFunction = codes ":f has to be :read, :write, :cas, :enqueue, :dequeue, :add, :acquire or :release"
event_sentence event.BadKey = codes "with --keyed each :value has to be a pair [key value]"
event_sentence event.BadValue = codes ":value isn't one that this :f takes or gives"
event_sentence event.OutOfMemory = []

abbrev pub sentence_text : Refusal → List ℕ
sentence_text (Edn at cause) = edn_sentence cause
sentence_text (Event at cause) = event_sentence cause
sentence_text (Truncated at) = codes "the file ends within the element or discard that begins here"
sentence_text Full = codes "a history has at most 1000000 events"
sentence_text (BadPair at) = []
sentence_text (Few count wanted) = codes "the file has fewer events of clients than --at-least asks for; what a nemesis did isn't counted"

-- where the fault stands: a fault of EDN and a map that is no event where they are, what is unfinished where it begins
abbrev pub place_in : Marked → Refusal → Option Place
place_in marked (Edn at cause) = bad_of marked.stop
place_in marked (Event at cause) = bad_of marked.stop
place_in marked (Truncated at) = unfinished_of marked.stop
place_in marked Full = None
place_in marked (BadPair at) = None
place_in marked (Few count wanted) = None

abbrev pub place_words : Option Place → List ℕ
place_words None = []
place_words (Some place) = codes "line " ++ decimal place.line ++ codes ", byte " ++ decimal place.offset ++ codes ": "

-- the line: where the fault stands, if it has a place, and what is asked there
abbrev pub refused_text : Marked → Refusal → List ℕ
refused_text marked refusal = place_words (place_in marked refusal) ++ sentence_text refusal ++ codes "\n"
