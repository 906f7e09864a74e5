-- What the lines that explain a no mean, by the legal orders of the object's events before the one with which these end.
use Rattle.std.specs.Prelude.{◌≡◌, ◌≢◌, ◌↔◌, ◌<◌, ◌≤◌, ◌-◌, ◌++◌, ℕ, List, [], ◌∷◌, AllPairs, take}
use Rattle.lin_events.specs.declared.items.Item.{Item}
use Rattle.lin_events.specs.declared.calls.Call.{Call}
use Rattle.lin_events.specs.declared.calls.Name.{Name}
use Rattle.lin_events.specs.declared.calls.Reply.{Reply}
use Rattle.lin_events.specs.declared.events.Body.TheVariants.{Ok, Fail}
use Rattle.lin_events.specs.declared.events.Event.{Event}
use Rattle.lin_events.specs.Operations.{IsCrashed, IsEvent, IsOk, IsOpen}
use Rattle.lin_objects.specs.declared.kinds.Kind.{Kind}
use Rattle.lin_order.specs.declared.placed.Placed.{Placed}
use Rattle.lin_order.specs.Linearizable.{IsLegalOrderAs, IsLinearizableAs}
use Rattle.lin_order.specs.Orders.{Places}
use Rattle.lin_order.specs.Parts.{part}
use Rattle.lin_answers.specs.Answers.{IsAnswer, kinds_in}
use Rattle.lin_answers.specs.Edits.{Present}
use Rattle.lin_answers.specs.declared.answers.Answer.TheVariants.{No}
use Rattle.lin_answers.specs.declared.answers.Scope.{Scope}
use Rattle.lin_answers.specs.declared.answers.Scope.TheVariants.{Object, Whole}
use Rattle.lin_possibilities.specs.Possible.{Answers}
use Rattle.lin_tables.specs.WindowOperations.{IsFailing, IsQuietAt}
use Rattle.lin_explain.specs.Own.{without_last}

-- the failing operation: its ok or its fail is the last event, and before that it is the one open operation of its process
pub record IsEndedBy (h : List Event) (call : ℕ) (ending : Event) : Type 0 where
  pub failing : IsFailing h call
  pub was_open : (called : Call) × IsOpen (without_last h) call ending.process ending.key called
  pub alone : (at : ℕ) (key : Item) (called : Call) → IsOpen (without_last h) at ending.process key called → at ≡ call

-- the reply is right for the open operation of the process: some legal order places it so
abbrev pub IsRight : Kind → List Event → ℕ → Reply → Type 0
IsRight kind h process reply = (order : List Placed) × Answers kind h process order reply

-- the same end, with this reply
abbrev pub ok_with : Event → Name → Reply → Event
ok_with ending name reply = record ending { body = Ok name reply }

-- A reply is right exactly where the events have a legal order if the operation ends with it. The one that the ok records isn't.
pub record RecordsWrong (kind : Kind) (before : List Event) (ending : Event) (name : Name) (recorded : Reply) : Type 0 where
  pub right : (reply : Reply) → IsRight kind before ending.process reply ↔ IsLinearizableAs kind (before ++ ok_with ending name reply ∷ [])
  pub wrong : IsRight kind before ending.process recorded → ⊥

-- each legal order places the open operation of the process
abbrev pub IsAlwaysPlaced : Kind → List Event → ℕ → Type 0
IsAlwaysPlaced kind before process = (order : List Placed) → IsLegalOrderAs kind before order → (reply : Reply) × Answers kind before process order reply

-- Of the operations that were invoked before the place only crashed ones stand behind one that was invoked there or later. So each ok one is there, ahead
-- of all these.
pub record IsParted (h : List Event) (place : ℕ) (order : List Placed) : Type 0 where
  pub crashed : AllPairs (λ p q. place ≤ p.at → q.at < place → IsCrashed h q.at) order
  pub ok_ahead : (at end : ℕ) (reply : Reply) → at < place → IsOk h at end reply → Places order at reply × AllPairs (λ p q. place ≤ p.at → q.at ≢ at) order

-- The events have no legal order, without the last one they have one. That is the end of an operation: an ok, whose reply isn't right, or a fail, of what
-- each legal order places. Where an event is quiet, legal orders part.
pub record IsExplained (kind : Kind) (h : List Event) (ending : Event) : Type 0 where
  pub fails : IsLinearizableAs kind h → ⊥
  pub before : IsLinearizableAs kind (without_last h)
  pub failing : (call : ℕ) × IsEndedBy h call ending
  pub ok : (name : Name) (recorded : Reply) → ending.body ≡ Ok name recorded → RecordsWrong kind (without_last h) ending name recorded
  pub fail : (name : Name) → ending.body ≡ Fail name → IsAlwaysPlaced kind (without_last h) ending.process
  pub quiet : (place : ℕ) → IsQuietAt h place → (order : List Placed) → IsLegalOrderAs kind (without_last h) order → IsParted (without_last h) place order

-- the scope has the object of the key
abbrev pub IsOf : Scope → Item → Type 0
IsOf Whole key = Unit {0}
IsOf (Object only) key = key ≡ only

-- so it is of each no, of the whole or of one object: of the events with the key of the last one, among the first ones that the no names
abbrev pub FailuresAreExplained : Type 0
FailuresAreExplained = (now : Present) (scope : Scope) (n : ℕ) (ending : Event) → IsAnswer now scope (No n) → IsEvent now.history (n - 1) ending
    → IsOf scope ending.key × IsExplained (kinds_in now ending.key) (part ending.key (take n now.history)) ending
