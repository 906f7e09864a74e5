-- What private functions answer of bags.
use Rattle.std.specs.Prelude.{◌≡◌, ◌≢◌, ◌<◌, ℕ, List, slice_get}
use Rattle.lin_events.specs.declared.items.Item.{Item}

-- what stands at the place doesn't stand ahead of it
abbrev pub IsFirstAt : List Item → ℕ → Type 0
IsFirstAt items at = (k : ℕ) → k < at → slice_get items k ≢ slice_get items at

-- what stands at the place stands ahead of it too
abbrev pub IsAgainAt : List Item → ℕ → Type 0
IsAgainAt items at = (k : ℕ) × (k < at) × (slice_get items k ≡ slice_get items at)
