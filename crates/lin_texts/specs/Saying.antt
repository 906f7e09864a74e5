-- What is read of a text, beside what the text says: cited by the contracts of private functions alone.
use Rattle.std.specs.Prelude.{◌≡◌, ℕ, List, Option, None, Some, Result, Ok}
use Rattle.lin_names.specs.Names.{AgreesWith, Numbering}
use Rattle.lin_order.specs.declared.placed.Placed.{Placed}
use Rattle.lin_texts.specs.Orders.{SaidPair, order_said}

-- nothing is said and read, or something, and what is read is that by each numbering that agrees with the names
abbrev pub IsAsSaid : {S X : Type 0} → (Numbering → S → X) → List (List ℕ) → Option S → Option X → Type 0
IsAsSaid made names None None = Unit {0}
IsAsSaid made names None (Some x) = ⊥
IsAsSaid made names (Some s) None = ⊥
IsAsSaid made names (Some s) (Some x) = (number : Numbering) → AgreesWith names number → x ≡ made number s

-- the pairs that are said are this order by each numbering that agrees with the names
abbrev pub AreOrdered : List (List ℕ) → Result (List SaidPair) ℕ → List Placed → Type 0
AreOrdered names pairs order = (number : Numbering) → AgreesWith names number → order_said number pairs ≡ Ok order
