-- What a read found beyond an earlier one.
use Rattle.std.specs.Prelude.{◌≡◌, ◌<◌, ◌⊎◌, ℕ, List, [], Contains, slice_index_or}
use Rattle.lin_events.specs.declared.items.Item.{Item}
use Rattle.lin_sets.specs.declared.news.News.{News}

-- the set has all of the other one, and what it has beyond that, these items, which are its members
pub record AreBeyond (s other items : List Item) : Type 0 where
  pub inside : (item : Item) → Contains other item → Contains s item
  pub each : (item : Item) → Contains items item → Contains s item
  pub rest : (item : Item) → Contains s item → Contains other item ⊎ Contains items item

-- they are beyond what a read found that was invoked at the place, or beyond nothing
abbrev pub IsNews : List (ℕ × List Item) → List Item → News → Type 0
IsNews reads s news = (other : List Item) × (((other ≡ []) × (news.since ≡ 0)) ⊎ Contains reads (news.since, other)) × AreBeyond s other news.items.items

-- of the first so many items so many of the other ones were met, in their order, and these items were not
pub record IsPartly (items other : List Item) (at met : ℕ) (more : List Item) : Type 0 where
  pub inside : (k : ℕ) (d : Item) → k < met → Contains items (slice_index_or other k d)
  pub each : (item : Item) → Contains more item → Contains items item
  pub rest : (k : ℕ) (d : Item) → k < at → Contains other (slice_index_or items k d) ⊎ Contains more (slice_index_or items k d)
