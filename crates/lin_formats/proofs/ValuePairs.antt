-- Values of two parts.
use Rattle.std.proofs.Common.{◌≡◌, List, [], ◌∷◌, map, length, is_some, nat_eq, refl, arith}
use Rattle.lin_edn.specs.Value.{values_of}
use Rattle.lin_edn.specs.View.{view}
use Rattle.lin_edn.specs.declared.Edn.{Edn}
use Rattle.lin_history.specs.Table.{both_of}

-- two elements are two values
pub are_two : (es : List Edn) → nat_eq (length es) 2 ≡ is_some (both_of (values_of (map view es)))
are_two [] = refl
are_two (a ∷ []) = refl
are_two (a ∷ b ∷ []) = refl
are_two (a ∷ b ∷ d ∷ es) = grind arith
