-- The points at which adds and reads of a set take effect: a read when it, all smaller reads and the first adds of all that they found
-- were invoked, an add when it was, and all this of the reads that are smaller than each that found its item.
use Rattle.std.specs.Prelude.{◌≡◌, ◌≢◌, ◌<◌, ◌≤◌, ◌+◌, ◌⊎◌, ℕ, suc, List, Option, None, Some, Contains, AllPairs, length, slice_get, unwrap_or}
use Rattle.std.specs.Map.{lookup}
use Rattle.lin_events.specs.declared.items.Item.{Item}
use Rattle.lin_events.specs.Items.{item_eq}
use Rattle.lin_events.specs.declared.calls.Reply.TheVariants.{Done, Members}
use Rattle.lin_sets.specs.declared.points.Points.{Points}
use Rattle.lin_sets.specs.declared.effects.Effect.{Effect}
use Rattle.lin_sets.specs.Acts.{IsAdd}

-- the least number of which it holds, if there is one
abbrev pub IsLeast : (ℕ → Type 0) → Option ℕ → Type 0
IsLeast P None = (k : ℕ) → P k → ⊥
IsLeast P (Some n) = P n × ((k : ℕ) → P k → n ≤ k)

-- the number that the item has, if it has one
abbrev pub number_of : List (Item × ℕ) → Item → Option ℕ
number_of numbers n = lookup (item_eq n) numbers

-- the read there found the item
abbrev pub HasFound : List (ℕ × List Item) → Item → ℕ → Type 0
HasFound reads n i = (r : ℕ × List Item) × (slice_get reads i ≡ Some r) × Contains r.1 n

-- the read found no more items than the other, and if as many, it was invoked no later
abbrev pub IsNoLarger : ℕ × List Item → ℕ × List Item → Type 0
IsNoLarger q r = (length q.1 ≤ length r.1) × (length r.1 ≤ length q.1 → q.0 ≤ r.0)

-- the first adds of the items were invoked by the place
abbrev pub IsAddedBy : List (Item × ℕ) → List Item → ℕ → Type 0
IsAddedBy first s place = (n : Item) (at : ℕ) → Contains s n → number_of first n ≡ Some at → at ≤ place

-- the first place from this one on by which the first adds of the items were invoked
pub record IsLatest (first : List (Item × ℕ)) (from : ℕ) (s : List Item) (place : ℕ) : Type 0 where
  pub behind : from ≤ place
  pub added : IsAddedBy first s place
  pub least : (bound : ℕ) → from ≤ bound → IsAddedBy first s bound → place ≤ bound

-- by the place so many of the reads were invoked, and the first adds of what they found
abbrev pub IsReady : List (Item × ℕ) → List (ℕ × List Item) → ℕ → ℕ → Type 0
IsReady first reads count place = (i : ℕ) (r : ℕ × List Item) → i < count → slice_get reads i ≡ Some r → (r.0 ≤ place) × IsAddedBy first r.1 place

-- the first such place from this one on
pub record IsPoint (first : List (Item × ℕ)) (reads : List (ℕ × List Item)) (from count place : ℕ) : Type 0 where
  pub behind : from ≤ place
  pub ready : IsReady first reads count place
  pub least : (bound : ℕ) → from ≤ bound → IsReady first reads count bound → place ≤ bound

-- for each item the place of its first add
abbrev pub AreFirst : List (Option Item) → List (Item × ℕ) → Type 0
AreFirst adds first = (n : Item) → IsLeast (λ at. IsAdd adds at n) (number_of first n)

-- for each item how many reads come ahead of the first one that found it
abbrev pub AreLevels : List (ℕ × List Item) → List (Item × ℕ) → Type 0
AreLevels reads levels = (n : Item) → IsLeast (HasFound reads n) (number_of levels n)

-- for each number of reads the first place by which so many are ready
pub record AreReached (first : List (Item × ℕ)) (reads : List (ℕ × List Item)) (reached : List ℕ) : Type 0 where
  pub many : length reached ≡ suc (length reads)
  pub each : (count place : ℕ) → slice_get reached count ≡ Some place → IsPoint first reads 0 count place

-- the points are those of the adds and of the reads, which stand in this order
pub record ArePoints (adds : List (Option Item)) (reads : List (ℕ × List Item)) (points : Points) : Type 0 where
  pub first : AreFirst adds points.first.entries
  pub levels : AreLevels reads points.levels.entries
  pub reached : AreReached points.first.entries reads points.reached.items

-- how many reads come ahead of the first one that found the item
abbrev pub level_of : List (ℕ × List Item) → Points → Item → ℕ
level_of reads points n = unwrap_or (number_of points.levels.entries n) (length reads)

-- an add takes effect
pub record IsAddEffect (adds : List (Option Item)) (reads : List (ℕ × List Item)) (points : Points) (n : Item) (e : Effect) : Type 0 where
  pub add : IsAdd adds e.placed.at n
  pub reply : e.placed.reply ≡ Done
  pub point : IsPoint points.first.entries reads e.placed.at (level_of reads points n) e.point
  pub rank : e.rank ≡ level_of reads points n + level_of reads points n

-- a read does
pub record IsReadEffect (reads : List (ℕ × List Item)) (points : Points) (i : ℕ) (r : ℕ × List Item) (e : Effect) : Type 0 where
  pub read : slice_get reads i ≡ Some r
  pub at : e.placed.at ≡ r.0
  pub reply : e.placed.reply ≡ Members r.1
  pub point : IsPoint points.first.entries reads r.0 (suc i) e.point
  pub rank : e.rank ≡ suc (i + i)

-- no two operations begin at one place
pub record AreApart (adds : List (Option Item)) (reads : List (ℕ × List Item)) : Type 0 where
  pub once : AllPairs (λ q r. q.0 ≢ r.0) reads
  pub none : (r : ℕ × List Item) (n : Item) → Contains reads r → IsAdd adds r.0 n → ⊥

-- those of the first places' adds, and of so many reads
pub record AreEffects (adds : List (Option Item)) (reads : List (ℕ × List Item)) (points : Points) (places count : ℕ) (effects : List Effect) : Type 0 where
  pub each : (e : Effect) → Contains effects e → ((n : Item) × (e.placed.at < places) × IsAddEffect adds reads points n e)
      ⊎ ((i : ℕ) × (r : ℕ × List Item) × (i < count) × IsReadEffect reads points i r e)
  pub adds_there : (at : ℕ) (n : Item) → at < places → IsAdd adds at n → (e : Effect) × Contains effects e × (e.placed.at ≡ at) × (e.placed.reply ≡ Done)
  pub reads_there : (i : ℕ) (r : ℕ × List Item) → i < count → slice_get reads i ≡ Some r → (e : Effect) × Contains effects e × (e.placed.at ≡ r.0) × (e.placed.reply ≡ Members r.1)
  pub once : AreApart adds reads → AllPairs (λ d e. d.placed.at ≢ e.placed.at) effects

-- the one takes effect no later, and at one point has no higher rank
abbrev pub IsAhead : Effect → Effect → Type 0
IsAhead d e = (d.point ≤ e.point) × (e.point ≤ d.point → d.rank ≤ e.rank)
