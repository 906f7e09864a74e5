-- What the answers to questions say of the present history.
use Rattle.std.specs.Prelude.{◌≡◌, ◌+◌, ◌-◌, ◌≤◌, ℕ, List, length, take}
use Rattle.lin_events.specs.declared.items.Item.{Item}
use Rattle.lin_events.specs.declared.events.Event.{Event}
use Rattle.lin_events.specs.declared.shapes.Shape.TheVariants.{Bad}
use Rattle.lin_events.specs.Operations.{IsEvent}
use Rattle.lin_events.specs.WellFormed.{IsShape, IsWellFormed}
use Rattle.lin_objects.specs.declared.kinds.Kind.{Kind}
use Rattle.lin_objects.specs.Kinds.{kind_of, functions_of}
use Rattle.lin_objects.specs.Steps.{Step, start}
use Rattle.lin_order.specs.Linearizable.{IsLegalOrder, IsLegalOrderFor, IsLinearizable, IsLinearizableFor}
use Rattle.lin_order.specs.Parts.{part}
use Rattle.lin_order.specs.Configurations.{IsOver}
use Rattle.lin_answers.specs.declared.answers.Answer.{Answer}
use Rattle.lin_answers.specs.declared.answers.Answer.TheVariants.{IllFormed, Yes, No, Undecided}
use Rattle.lin_answers.specs.declared.answers.Verdict.{Verdict}
use Rattle.lin_answers.specs.declared.answers.Verdict.TheVariants as verdict
use Rattle.lin_answers.specs.declared.answers.Scope.{Scope}
use Rattle.lin_answers.specs.declared.answers.Scope.TheVariants.{Object, Whole}
use Rattle.lin_answers.specs.Edits.{Present}

-- the kind of each key's object
abbrev pub kinds_in : Present → Item → Kind
kinds_in now = kind_of now.kinds

-- the shortest prefix of the history that hasn't the property has so many events
pub record IsShortestWithout (holds : List Event → Type 0) (h : List Event) (n : ℕ) : Type 0 where
  pub within : n ≤ length h
  pub fails : holds (take n h) → ⊥
  pub before : holds (take (n - 1) h)

-- with the event at the position, which is of the key, the object has more configurations than the budget
pub record IsOverAt (kinds : Item → Kind) (budget : ℕ) (h : List Event) (key : Item) (at : ℕ) : Type 0 where
  pub event : Event
  pub stands : IsEvent h at event
  pub same : event.key ≡ key
  pub over : IsOver (start (kinds key)) (Step (kinds key)) (part key (take (at + 1) h)) budget

-- in some prefix of the history the object has more configurations than the budget
abbrev pub IsOverSomewhere : (Item → Kind) → ℕ → List Event → Item → Type 0
IsOverSomewhere kinds budget h key = (n : ℕ) × IsOver (start (kinds key)) (Step (kinds key)) (part key (take n h)) budget

-- of a well-formed history the answer for one object
abbrev pub IsObjectAnswer : (Item → Kind) → ℕ → List Event → Item → Answer → Type 0
IsObjectAnswer kinds budget h key (IllFormed at cause) = ⊥
IsObjectAnswer kinds budget h key (Yes order) = IsLegalOrderFor kinds key h order.items
IsObjectAnswer kinds budget h key (No n) = IsShortestWithout (IsLinearizableFor kinds key) h n
IsObjectAnswer kinds budget h key (Undecided at) = IsOverAt kinds budget h key at

-- of a well-formed history the answer for the whole. Where it is undecided, no shorter failure is hidden: up to there the history is linearizable
abbrev pub IsWholeAnswer : (Item → Kind) → ℕ → List Event → Answer → Type 0
IsWholeAnswer kinds budget h (IllFormed at cause) = ⊥
IsWholeAnswer kinds budget h (Yes order) = IsLegalOrder kinds h order.items
IsWholeAnswer kinds budget h (No n) = IsShortestWithout (IsLinearizable kinds) h n
IsWholeAnswer kinds budget h (Undecided at) = IsLinearizable kinds (take (at + 1) h) × (key : Item) × IsOverAt kinds budget h key at

abbrev pub IsScopeAnswer : Present → Scope → Answer → Type 0
IsScopeAnswer now (Object key) answer = IsObjectAnswer (kinds_in now) now.budget now.history key answer
IsScopeAnswer now Whole answer = IsWholeAnswer (kinds_in now) now.budget now.history answer

-- the answer: that the history isn't well-formed, with its least bad position and the first cause there, or one for the scope
abbrev pub IsAnswer : Present → Scope → Answer → Type 0
IsAnswer now scope (IllFormed at cause) = IsShape (functions_of (kinds_in now)) now.history (Bad at cause)
IsAnswer now scope answer = IsWellFormed (functions_of (kinds_in now)) now.history × IsScopeAnswer now scope answer

-- an answer without its order
abbrev pub verdict_of : Answer → Verdict
verdict_of (IllFormed at cause) = verdict.IllFormed at cause
verdict_of (Yes order) = verdict.Yes
verdict_of (No n) = verdict.No n
verdict_of (Undecided at) = verdict.Undecided at

-- of a well-formed history the verdict for one object
abbrev pub IsObjectVerdict : (Item → Kind) → ℕ → List Event → Item → Verdict → Type 0
IsObjectVerdict kinds budget h key (verdict.IllFormed at cause) = ⊥
IsObjectVerdict kinds budget h key verdict.Yes = IsLinearizableFor kinds key h
IsObjectVerdict kinds budget h key (verdict.No n) = IsShortestWithout (IsLinearizableFor kinds key) h n
IsObjectVerdict kinds budget h key (verdict.Undecided at) = IsOverAt kinds budget h key at

-- of a well-formed history the verdict for the whole
abbrev pub IsWholeVerdict : (Item → Kind) → ℕ → List Event → Verdict → Type 0
IsWholeVerdict kinds budget h (verdict.IllFormed at cause) = ⊥
IsWholeVerdict kinds budget h verdict.Yes = IsLinearizable kinds h
IsWholeVerdict kinds budget h (verdict.No n) = IsShortestWithout (IsLinearizable kinds) h n
IsWholeVerdict kinds budget h (verdict.Undecided at) = IsLinearizable kinds (take (at + 1) h) × (key : Item) × IsOverAt kinds budget h key at

abbrev pub IsScopeVerdict : Present → Scope → Verdict → Type 0
IsScopeVerdict now (Object key) verdict = IsObjectVerdict (kinds_in now) now.budget now.history key verdict
IsScopeVerdict now Whole verdict = IsWholeVerdict (kinds_in now) now.budget now.history verdict

-- the verdict: that the history isn't well-formed, with its least bad position and the first cause there, or one for the scope
abbrev pub IsVerdict : Present → Scope → Verdict → Type 0
IsVerdict now scope (verdict.IllFormed at cause) = IsShape (functions_of (kinds_in now)) now.history (Bad at cause)
IsVerdict now scope other = IsWellFormed (functions_of (kinds_in now)) now.history × IsScopeVerdict now scope other

-- an answer without its order is a verdict
abbrev pub AnswersAreVerdicts : Type 0
AnswersAreVerdicts = (now : Present) (scope : Scope) (answer : Answer) → IsAnswer now scope answer → IsVerdict now scope (verdict_of answer)
