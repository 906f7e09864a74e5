-- What stands before a text that was put last: cited by the contracts of private functions alone.
use Rattle.std.specs.Prelude.{◌≡◌, List, ◌++◌, ℕ}

-- a text begins with another
abbrev pub HasFront : List ℕ → List ℕ → Type 0
HasFront front text = (more : List ℕ) × (text ≡ front ++ more)
