-- What is known of the objects that a question is about, and what a question leaves of it.
use Rattle.std.specs.Prelude.{◌≡◌, ◌<◌, ◌≤◌, ◌-◌, true, List, Some, IsTrue, length}
use Rattle.lin_events.specs.declared.items.Item.{Item}
use Rattle.lin_events.specs.declared.events.Event.{Event}
use Rattle.lin_objects.specs.declared.kinds.Kind.{Kind}
use Rattle.lin_order.specs.Orders.{is_of_key}
use Rattle.lin_order.specs.Parts.{part}
use Rattle.lin_engines.specs.declared.ends.End.{End}
use Rattle.lin_engines.specs.declared.ends.End.TheVariants.{Alive, Dead, Over}
use Rattle.lin_engines.specs.Exacts.{HasExact}
use Rattle.lin_chain.specs.Work.{Mark}
use Rattle.lin_answers.specs.declared.answers.Scope.{Scope}
use Rattle.lin_answers.specs.declared.answers.Scope.TheVariants.{Object, Whole}
use Rattle.lin_answers.specs.declared.answers.Verdict.{Verdict}
use Rattle.lin_answers.specs.declared.answers.Verdict.TheVariants.{IllFormed, Yes, No, Undecided}
use Rattle.lin_session.specs.Known.{count_before}

-- the object of the key is one of the scope
abbrev pub IsOf : Scope → Item → Type 0
IsOf (Object named) key = key ≡ named
IsOf Whole key = Unit {0}

-- and has an event
abbrev pub IsAsked : List Event → Scope → Item → Type 0
IsAsked h scope key = IsOf scope key × (0 < length (part key h))

-- it is told that all events of the key's object end so
abbrev pub IsToldOf : List Event → (Item → Mark) → Item → End → Type 0
IsToldOf h marks key end = (marks key).told (length (part key h)) ≡ Some end

abbrev pub IsKnown : List Event → (Item → Mark) → Item → Type 0
IsKnown h marks key = (end : End) × IsToldOf h marks key end

-- of no object that a question is about it has to be found
abbrev pub IsNothingDue : List Event → Scope → (Item → Mark) → Type 0
IsNothingDue h scope marks = (key : Item) → IsAsked h scope key → IsKnown h marks key

-- What the marks tell where this is the verdict: each object of the scope is alive, or one is dead or over at its event that the verdict names.
abbrev pub IsMarkedAs : List Event → Scope → (Item → Mark) → Verdict → Type 0
IsMarkedAs h scope marks (IllFormed at cause) = Unit {0}
IsMarkedAs h scope marks Yes = (key : Item) → IsOf scope key → IsToldOf h marks key Alive
IsMarkedAs h scope marks (No n) = (key : Item) × IsOf scope key × IsTrue (is_of_key h key (n - 1)) × IsToldOf h marks key (Dead (count_before h key (n - 1)))
IsMarkedAs h scope marks (Undecided at) = (key : Item) × IsOf scope key × IsTrue (is_of_key h key at) × IsToldOf h marks key (Over (count_before h key at))

-- each object that a question is about is decided by an engine of its own
abbrev pub AreExact : (Item → Kind) → List Event → Scope → Type 0
AreExact kinds h scope = (key : Item) → IsAsked h scope key → HasExact (kinds key)

-- What a question leaves, also where it is broken off: an object stays as it is where it wasn't asked about, and where all was known of it; and no engine
-- falls back.
pub record AreCarriedOn (h : List Event) (scope : Scope) (old new : Item → Mark) : Type 0 where
  pub known : (key : Item) → IsKnown h old key → new key ≡ old key
  pub others : (key : Item) → (IsAsked h scope key → ⊥) → new key ≡ old key
  pub frontier : (key : Item) → (old key).frontier ≤ (new key).frontier
  pub beside : (key : Item) → (old key).beside ≤ (new key).beside
  pub stopped : (key : Item) → (old key).stopped ≡ true → (new key).stopped ≡ true
