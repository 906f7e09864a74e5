-- The engines that decide their objects exactly, as one.
use Rattle.std.specs.Prelude.{◌≡◌, ◌≤◌, ◌⊎◌, ℕ, List, length}
use Rattle.lin_events.specs.declared.events.Event.{Event}
use Rattle.lin_objects.specs.declared.kinds.Kind.{Kind}
use Rattle.lin_objects.specs.declared.kinds.Kind.TheVariants as kinds
use Rattle.lin_locks.specs.Locks.{IsLockOf, reached_in as reached_in_lock}
use Rattle.lin_sets.specs.Intervals.{AreIntervalsOf, reached_in}
use Rattle.lin_engines.specs.declared.exact.Exact.{Exact}
use Rattle.lin_engines.specs.declared.exact.Exact.TheVariants.{Set, Mutex}
use Rattle.lin_engines.specs.declared.lane.Lane.{Lane}
use Rattle.lin_engines.specs.Lanes.{IsLane, IsOfExact}

-- how many events it has taken in
abbrev pub reach_of_exact : Exact → ℕ
reach_of_exact (Set intervals) = reached_in intervals
reach_of_exact (Mutex lock) = reached_in_lock lock

-- of which kind its object is
abbrev pub kind_of_exact : Exact → Kind
kind_of_exact (Set intervals) = kinds.Set
kind_of_exact (Mutex lock) = kinds.Mutex

-- an object of the kind is decided by such an engine
abbrev pub HasExact : Kind → Type 0
HasExact kind = (kind ≡ kinds.Set) ⊎ (kind ≡ kinds.Mutex)

-- it is right for the first events, as many as it has taken in
abbrev pub SeesExact : Exact → List Event → Type 0
SeesExact (Set intervals) h = (reached_in intervals ≤ length h) × AreIntervalsOf intervals h
SeesExact (Mutex lock) h = IsLockOf lock h

-- as an engine with its mark
abbrev pub IsExactLane : Lane Exact → List Event → Type 0
IsExactLane lane h = IsLane SeesExact kind_of_exact reach_of_exact IsOfExact lane h

pub exact_within : (exact : Exact) (h : List Event) → SeesExact exact h → reach_of_exact exact ≤ length h
exact_within (Set intervals) h seen = seen.0
exact_within (Mutex lock) h seen = seen.within
