-- The lines that tell what was possible.
use Rattle.std.specs.Prelude.{ℕ, zero, suc, ◌-◌, List, [], ◌∷◌, ◌++◌, Option, Some, None, codes, decimal, length, nat_eq, if◌then◌else◌}
use Rattle.lin_events.specs.declared.calls.Reply.{Reply}
use Rattle.lin_objects.specs.declared.kinds.Kind.{Kind}
use Rattle.lin_objects.specs.declared.kinds.Kind.TheVariants.{Register, CasRegister, Fifo, Set, Mutex, Bag}
use Rattle.lin_tables.specs.Tables.{list_text}
use Rattle.lin_possibilities.specs.declared.listing.Listed.{Listed}
use Rattle.lin_possibilities.specs.declared.outcomes.Outcomes.{Outcomes}
use Rattle.lin_possibilities.specs.Outcomes.{Failing}

-- what an object is called
abbrev pub noun_text : Kind → List ℕ
noun_text Register = codes "register"
noun_text CasRegister = codes "register"
noun_text Fifo = codes "queue"
noun_text Set = codes "set"
noun_text Mutex = codes "lock"
noun_text Bag = codes "queue"

-- a number, and what stands ahead of it and behind it
abbrev pub counted : List ℕ → ℕ → List ℕ → List ℕ
counted ahead number behind = ahead ++ decimal number ++ behind

-- how many more there are, where there are any
abbrev pub more_text : ℕ → List ℕ
more_text zero = []
more_text (suc more) = counted (codes "  and ") (suc more) (codes " more\n")

abbrev pub listed_text : Listed → List ℕ
listed_text listed = list_text listed.entries.items ++ more_text (listed.count - length listed.entries.items)

-- with more configurations than the budget nothing is listed
abbrev pub not_listed : ℕ → List ℕ
not_listed budget = counted (codes " isn't listed: more than ") budget (codes " configurations\n")

abbrev pub after_first : ℕ → List ℕ
after_first count = counted (codes "after the first ") count (codes " events")

abbrev pub could_be : Kind → List ℕ
could_be kind = codes "the " ++ noun_text kind ++ codes " could be"

-- the replies that are right, after so many events
abbrev pub right_text : ℕ → Listed → List ℕ
right_text count replies = if nat_eq replies.count 0 then counted (codes "no legal order of the first ") count (codes " events places it\n")
    else codes "it could have returned:\n" ++ listed_text replies

-- what the failing operation could have returned; the end that is a fail shows that each legal order places it
abbrev pub replies_text : Option Reply → ℕ → ℕ → Option Outcomes → List ℕ
replies_text None count budget outcomes = counted (codes "each legal order of the first ") count (codes " events places it\n")
replies_text (Some reply) count budget None = codes "what it could have returned" ++ not_listed budget
replies_text (Some reply) count budget (Some outcomes) = right_text count outcomes.replies

abbrev pub being_text : Outcomes → List ℕ
being_text outcomes = if outcomes.is_just_that then codes " just that\n" else codes ":\n" ++ listed_text outcomes.states

-- what the object could be
abbrev pub states_text : Kind → ℕ → ℕ → Option Outcomes → List ℕ
states_text kind count budget None = codes "what " ++ could_be kind ++ codes " " ++ after_first count ++ not_listed budget
states_text kind count budget (Some outcomes) = after_first count ++ codes " " ++ could_be kind ++ being_text outcomes

-- both, of the events before the last one of the prefix
abbrev pub outcomes_text : Failing → ℕ → ℕ → Option Outcomes → List ℕ
outcomes_text f prefix budget outcomes = replies_text f.recorded (prefix - 1) budget outcomes ++ states_text f.kind (prefix - 1) budget outcomes

-- the words of all states: one, both of two, or how many
abbrev pub which_text : List (List ℕ) → List ℕ
which_text [] = []
which_text (one ∷ []) = one
which_text (one ∷ other ∷ []) = one ++ codes " or " ++ other
which_text (one ∷ other ∷ third ∷ more) = counted (codes "one of ") (length (one ∷ other ∷ third ∷ more)) (codes " states")

abbrev pub was_text : Kind → List (List ℕ) → List ℕ
was_text kind states = codes " and the " ++ noun_text kind ++ codes " was " ++ which_text states
