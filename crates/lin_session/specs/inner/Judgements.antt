-- What is found of the objects of a history, one after the other: the shortest failing prefix, and the first place where one is over the budget.
use Rattle.std.specs.Prelude.{◌≡◌, ◌≤◌, ◌<◌, ◌-◌, ◌⊎◌, ℕ, List, Option, None, Some, Contains, IsTrue}
use Rattle.lin_events.specs.declared.items.Item.{Item}
use Rattle.lin_events.specs.declared.events.Event.{Event}
use Rattle.lin_objects.specs.declared.kinds.Kind.{Kind}
use Rattle.lin_order.specs.Linearizable.{IsLegalOrder, IsLegalOrderFor, IsLinearizableFor}
use Rattle.lin_order.specs.declared.placed.Placed.{Placed}
use Rattle.lin_order.specs.Orders.{is_of_key}
use Rattle.lin_engines.specs.declared.ends.End.TheVariants.{Alive, Dead, Over}
use Rattle.lin_chain.specs.Work.{Mark}
use Rattle.lin_answers.specs.declared.answers.Scope.{Scope}
use Rattle.lin_answers.specs.declared.answers.Scope.TheVariants as scope
use Rattle.lin_answers.specs.declared.answers.Verdict.{Verdict}
use Rattle.lin_answers.specs.declared.answers.Verdict.TheVariants.{Yes, No, Undecided}
use Rattle.lin_answers.specs.Answers.{IsShortestWithout, IsOverAt}
use Rattle.lin_session.specs.Marks.{IsToldOf}
use Rattle.lin_session.specs.Known.{count_before}

-- what was found of one object: the prefix that fails it, or the place where it is over, or that it is linearizable
abbrev pub IsFinding : (Item → Kind) → ℕ → List Event → Item → Option ℕ → Option ℕ → Type 0
IsFinding kinds budget h key (Some n) over = (over ≡ None) × IsShortestWithout (IsLinearizableFor kinds key) h n
IsFinding kinds budget h key None (Some at) = IsOverAt kinds budget h key at
IsFinding kinds budget h key None None = IsLinearizableFor kinds key h

-- what its mark tells then
abbrev pub IsMarkedBy : List Event → (Item → Mark) → Item → Option ℕ → Option ℕ → Type 0
IsMarkedBy h marks key (Some n) over = (over ≡ None) × IsTrue (is_of_key h key (n - 1)) × IsToldOf h marks key (Dead (count_before h key (n - 1)))
IsMarkedBy h marks key None (Some at) = IsTrue (is_of_key h key at) × IsToldOf h marks key (Over (count_before h key at))
IsMarkedBy h marks key None None = IsToldOf h marks key Alive

-- an object is linearizable, or fails at no shorter prefix than the one found, or is over at no earlier place than the one found
abbrev pub IsCovered : (Item → Kind) → ℕ → List Event → Option ℕ → Option ℕ → Item → Type 0
IsCovered kinds budget h failing over key = IsLinearizableFor kinds key h
    ⊎ ((n m : ℕ) × (failing ≡ Some n) × (n ≤ m) × IsShortestWithout (IsLinearizableFor kinds key) h m)
    ⊎ ((u v : ℕ) × (over ≡ Some u) × (u ≤ v) × IsOverAt kinds budget h key v)

-- what was found of the objects of these keys
pub record AreFound (kinds : Item → Kind) (budget : ℕ) (h : List Event) (keys : List Item) (failing over : Option ℕ) : Type 0 where
  pub fails : (n : ℕ) → failing ≡ Some n → (key : Item) × IsShortestWithout (IsLinearizableFor kinds key) h n
  pub stands_over : (at : ℕ) → over ≡ Some at → (key : Item) × IsOverAt kinds budget h key at
  pub each : (key : Item) → Contains keys key → IsCovered kinds budget h failing over key

-- a legal order for the scope
abbrev pub IsOrderFor : (Item → Kind) → List Event → Scope → List Placed → Type 0
IsOrderFor kinds h (scope.Object key) order = IsLegalOrderFor kinds key h order
IsOrderFor kinds h scope.Whole order = IsLegalOrder kinds h order

-- the verdict that the findings give: the failing prefix, unless an object is over at an earlier place
abbrev pub IsTold : Option ℕ → Option ℕ → Verdict → Type 0
IsTold None None told = told ≡ Yes
IsTold None (Some at) told = told ≡ Undecided at
IsTold (Some n) None told = told ≡ No n
IsTold (Some n) (Some at) told = ((n ≤ at) × (told ≡ No n)) ⊎ ((at < n) × (told ≡ Undecided at))
