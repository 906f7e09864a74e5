-- An engine with what it said last, and how many of the events are no longer due to it.
use Rattle.std.specs.Prelude.{◌≡◌, ◌≤◌, ◌<◌, ◌+◌, ℕ, List, Option, None, Some, length, if◌then◌else◌, nat_eq, nat_lt}
use Rattle.lin_events.specs.declared.events.Event.{Event}
use Rattle.lin_objects.specs.declared.kinds.Kind.{Kind}
use Rattle.lin_engines.specs.Ends.{IsOverAt}
use Rattle.lin_engines.specs.Engines.{IsFailing}
use Rattle.lin_engines.specs.declared.ends.End.{End}
use Rattle.lin_engines.specs.declared.ends.End.TheVariants.{Alive, Dead as DeadAt, Over as OverAt}
use Rattle.lin_engines.specs.declared.lane.Lane.{Lane}
use Rattle.lin_engines.specs.declared.says.Says.{Says}
use Rattle.lin_engines.specs.declared.says.Says.TheVariants.{On, Dead, Over, Gone}

-- what engines may say: frontiers don't give up; what decides an object is never over either; a witness tells of no failure
abbrev pub IsOfFrontier : Says → Type 0
IsOfFrontier On = Unit {0}
IsOfFrontier Dead = Unit {0}
IsOfFrontier (Over at) = Unit {0}
IsOfFrontier Gone = ⊥

abbrev pub IsOfExact : Says → Type 0
IsOfExact On = Unit {0}
IsOfExact Dead = Unit {0}
IsOfExact (Over at) = ⊥
IsOfExact Gone = ⊥

abbrev pub IsOfWitness : Says → Type 0
IsOfWitness On = Unit {0}
IsOfWitness Dead = ⊥
IsOfWitness (Over at) = ⊥
IsOfWitness Gone = Unit {0}

-- how an engine stands that has reached a place and said this last: it goes on at the mark, or stopped before it
abbrev pub IsStanding : Kind → ℕ → List Event → ℕ → ℕ → Says → Type 0
IsStanding kind budget h reached mark On = reached ≡ mark
IsStanding kind budget h reached mark Dead = (reached < mark) × IsFailing kind h reached
IsStanding kind budget h reached mark (Over at) = (at ≤ reached) × (reached ≤ at + 1) × (at < mark) × IsOverAt kind budget h at
IsStanding kind budget h reached mark Gone = reached ≤ mark

-- an engine, what it said last and its mark are right for a history
pub record IsLane {E : Type 0} (sees : E → List Event → Type 0) (kind : E → Kind) (reach : E → ℕ) (says : Says → Type 0) (lane : Lane E) (h : List Event) : Type 0 where
  pub seen : sees lane.engine h
  pub within : lane.mark ≤ length h
  pub may : says lane.said
  pub standing : IsStanding (kind lane.engine) lane.budget h (reach lane.engine) lane.mark lane.said

-- it stopped at an event ahead of the place
abbrev pub IsStoppedAhead : Says → ℕ → ℕ → Type 0
IsStoppedAhead On reached place = ⊥
IsStoppedAhead Dead reached place = reached < place
IsStoppedAhead (Over at) reached place = at < place
IsStoppedAhead Gone reached place = reached < place

-- it isn't over for a smaller budget than this
abbrev pub IsFor : {E : Type 0} → ℕ → Lane E → Type 0
IsFor budget lane = (at : ℕ) → lane.said ≡ Over at → budget ≤ lane.budget

-- where it is over, that is for a budget below this
abbrev pub IsUnder : {E : Type 0} → ℕ → Lane E → Type 0
IsUnder most lane = (at : ℕ) → lane.said ≡ Over at → lane.budget < most

-- How the first so many events end, if an engine that has reached a place, said this last and has the mark tells. That it is over is told only where all
-- of them were given to it.
abbrev pub told_of : Says → ℕ → ℕ → ℕ → Option End
told_of On reached mark count = if nat_eq mark count then Some Alive else None
told_of Dead reached mark count = if nat_lt reached count then Some (DeadAt reached) else None
told_of (Over at) reached mark count = if nat_eq mark count then Some (OverAt at) else None
told_of Gone reached mark count = None
