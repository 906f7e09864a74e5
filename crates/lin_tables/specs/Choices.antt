-- How operations are chosen for a table, one by one: words of private contracts.
use Rattle.std.specs.Prelude.{◌≡◌, ◌≢◌, ◌<◌, ◌≤◌, ℕ, Bool, true, false, List, length, slice_index_or}
use Rattle.std.specs.List.{remove}
use Rattle.lin_tables.specs.declared.marks.Chosen.{Chosen}
use Rattle.lin_tables.specs.WindowTables.{IsAhead, Listing}

-- each other one is chosen before the one that stands there
pub record IsHindmost (listed : Listing) (chosen : List Chosen) (last : ℕ) : Type 0 where
  pub within : last < length chosen
  pub behind : (k : ℕ) (d : Chosen) → k < length chosen → k ≢ last → IsAhead listed (slice_index_or chosen k d) (slice_index_or chosen last d)

-- of more than eight the hindmost is left out
abbrev pub TakesIn : Listing → List Chosen → Bool → List Chosen → Type 0
TakesIn listed chosen false shown = (shown ≡ chosen) × (length chosen ≤ 8)
TakesIn listed chosen true shown = (last : ℕ) × IsHindmost listed chosen last × (8 < length chosen) × (shown ≡ remove chosen last)
