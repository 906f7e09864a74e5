-- Batches of offers, one after the other, each of which several lists may own.
use Rattle.std.specs.Prelude.{List, [], ◌∷◌, ◌++◌}
use Rattle.std.specs.declared.rc.Rc.{Rc}

-- what all of them hold, first to last
abbrev pub all_of : {X Z : Type 0} → List (Rc (List X) Z) → List X
all_of [] = []
all_of (rc ∷ rest) = rc.value ++ all_of rest
