-- What several own together.
use Rattle.std.specs.Prelude.{List, [], Option, Some, None}
use Rattle.std.specs.declared.rc.Rc.{Rc}

-- the list that is shared, nothing where there is none
abbrev pub shared : {X Z : Type 0} → Option (Rc (List X) Z) → List X
shared None = []
shared (Some rc) = rc.value
