-- The object that a no is about: words of private contracts.
use Rattle.std.specs.Prelude.{◌≡◌, ◌-◌, ℕ, take}
use Rattle.lin_events.specs.Operations.{IsEvent}
use Rattle.lin_answers.specs.Answers.{kinds_in}
use Rattle.lin_answers.specs.Edits.{Present}
use Rattle.lin_explain.specs.declared.fallen.Fallen.{Fallen}
use Rattle.lin_explain.specs.inner.Laws.{IsFailure}
use Rattle.lin_explain.specs.inner.Own.{IsOwn}

-- the last event of the shortest failing prefix, its object's events in that, of the kind of the object, and the budget
pub record IsFallen (now : Present) (n : ℕ) (fallen : Fallen) : Type 0 where
  pub stands : IsEvent now.history (n - 1) fallen.ending
  pub own_of : IsOwn fallen.ending.key (take n now.history) fallen.own
  pub kind_of : fallen.kind ≡ kinds_in now fallen.ending.key
  pub budget_of : fallen.budget ≡ now.budget
  pub fails : IsFailure fallen.kind fallen.own.events.items fallen.ending
