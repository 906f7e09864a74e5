-- Where the failure that a no is about comes from: words of private contracts.
use Rattle.std.specs.Prelude.{◌≡◌, ◌-◌, ℕ, Bool, List, [], ◌∷◌, ◌++◌, take}
use Rattle.lin_events.specs.declared.items.Item.{Item}
use Rattle.lin_events.specs.declared.calls.Name.{Name}
use Rattle.lin_events.specs.declared.events.Event.{Event}
use Rattle.lin_events.specs.Operations.{IsEvent}
use Rattle.lin_events.specs.WellFormed.{IsWellFormed}
use Rattle.lin_objects.specs.declared.kinds.Kind.{Kind}
use Rattle.lin_order.specs.Linearizable.{IsLinearizableAs}
use Rattle.lin_order.specs.Parts.{part}
use Rattle.lin_possibilities.specs.Outcomes.{HasNotCrashed}
use Rattle.lin_answers.specs.Answers.{IsAnswer, kinds_in}
use Rattle.lin_answers.specs.Edits.{Present}
use Rattle.lin_answers.specs.declared.answers.Answer.TheVariants.{No}
use Rattle.lin_answers.specs.declared.answers.Scope.{Scope}
use Rattle.lin_tables.specs.WindowOperations.{IsFailing}
use Rattle.lin_explain.specs.Laws.{IsExplained, IsOf}
use Rattle.lin_explain.specs.Own.{without_last}

-- the events of an object of the kind are well-formed, and have a legal order
pub record IsLegalHistory (kind : Kind) (h : List Event) : Type 0 where
  pub well_formed : (functions : Item → Name → Bool) × IsWellFormed functions h
  pub legal : IsLinearizableAs kind h

-- No order of the events is legal, but the events without the last one have a legal order. The last one is the ok or the fail of an operation, and no
-- operation of its process crashed.
pub record IsFailure (kind : Kind) (h : List Event) (ending : Event) : Type 0 where
  pub fails : IsLinearizableAs kind h → ⊥
  pub before : IsLegalHistory kind (without_last h)
  pub failing : (call : ℕ) × IsFailing h call
  pub ends : h ≡ without_last h ++ ending ∷ []
  pub well_formed : (functions : Item → Name → Bool) × IsWellFormed functions h
  pub uncrashed : HasNotCrashed (without_last h) ending.process

-- each event with which legal orders end is such
abbrev pub FailuresEnd : Kind → Type 0
FailuresEnd kind = (functions : Item → Name → Bool) (ahead : List Event) (ending : Event) → IsWellFormed functions (ahead ++ ending ∷ [])
    → IsLinearizableAs kind ahead → (IsLinearizableAs kind (ahead ++ ending ∷ []) → ⊥) → IsFailure kind (ahead ++ ending ∷ []) ending

-- so is the last event of the shortest prefix that a no names, for its object
abbrev pub NoesFail : Kind → Type 0
NoesFail kind = (now : Present) (scope : Scope) (n : ℕ) (ending : Event) → IsAnswer now scope (No n) → IsEvent now.history (n - 1) ending → kinds_in now ending.key ≡ kind
    → IsFailure kind (part ending.key (take n now.history)) ending

-- that event is of an object that the scope has
abbrev pub NoesStayInside : Type 0
NoesStayInside = (now : Present) (scope : Scope) (n : ℕ) (ending : Event) → IsAnswer now scope (No n) → IsEvent now.history (n - 1) ending → IsOf scope ending.key

-- of such a failure the lines of its explanation say this; and so of the object that a no is about, whose kind it is
abbrev pub FailuresMean : Kind → Type 0
FailuresMean kind = (h : List Event) (ending : Event) → IsFailure kind h ending → IsExplained kind h ending

abbrev pub NoesMean : Kind → Type 0
NoesMean kind = (now : Present) (scope : Scope) (n : ℕ) (ending : Event) → IsAnswer now scope (No n) → IsEvent now.history (n - 1) ending → kinds_in now ending.key ≡ kind
    → IsOf scope ending.key × IsExplained kind (part ending.key (take n now.history)) ending

-- each beginning of events that have a legal order has one
abbrev pub BeginningsAreLegal : Kind → Type 0
BeginningsAreLegal kind = (h : List Event) (n : ℕ) → IsLegalHistory kind h → IsLegalHistory kind (take n h)
