-- How often maps were passed over, and for which keyword at first.
use Rattle.std.specs.Prelude.{ℕ, List, Option, None}

-- how often, up to the greatest number, and the first 40 bytes of the first keyword
pub record Passed : Type 0 where
  pub count : ℕ
  pub first : Option (List ℕ)

abbrev pub none_passed : Passed
none_passed = record { count = 0; first = None }
