-- What a chain knows of its object's history.
use Rattle.std.specs.Prelude.{◌≡◌, ◌≤◌, ◌<◌, ◌*◌, ◌/◌, ℕ, List, Option, true, false, None, Some, length, min, take, if◌then◌else◌, nat_eq, nat_lt}
use Rattle.lin_events.specs.declared.events.Event.{Event}
use Rattle.lin_objects.specs.declared.kinds.Kind.{Kind}
use Rattle.lin_order.specs.Linearizable.{IsDeadAt, IsLegalOrderAs}
use Rattle.lin_engines.specs.declared.ends.End.{End}
use Rattle.lin_engines.specs.declared.ends.End.TheVariants.{Alive, Dead, Over}
use Rattle.lin_engines.specs.Exacts.{HasExact, IsExactLane, kind_of_exact, reach_of_exact}
use Rattle.lin_engines.specs.Lanes.{IsFor as IsLaneFor, IsUnder, told_of}
use Rattle.lin_engines.specs.Replays.{IsFrontierLane, held_count, kind_of_replay, reach_of_replay}
use Rattle.lin_engines.specs.Witnessing.{IsWitnessLane, kind_of_witness, reach_of_witness}
use Rattle.lin_chain.specs.Work.{Mark}
use Rattle.lin_chain.specs.declared.beside.Beside.{Beside}
use Rattle.lin_chain.specs.declared.beside.Beside.TheVariants.{Nothing, Exact, Going}
use Rattle.lin_chain.specs.declared.chain.Chain.{Chain}
use Rattle.lin_chain.specs.declared.found.Found.{Found}
use Rattle.lin_chain.specs.declared.found.Found.TheVariants as found

-- its object's kind
abbrev pub kind_in : Chain → Kind
kind_in chain = kind_of_replay chain.frontier.engine

-- the engine beside the frontiers is right for the history, and decides the object if it is one that does
abbrev pub IsBeside : Kind → List Event → Beside → Type 0
IsBeside kind h Nothing = Unit {0}
IsBeside kind h (Exact lane) = (kind_of_exact lane.engine ≡ kind) × IsExactLane lane h
IsBeside kind h (Going lane) = (kind_of_witness lane.engine ≡ kind) × IsWitnessLane lane h × (HasExact kind → ⊥)

-- what a search found is right: a legal order of so many first events, or the first event with which they have none
abbrev pub IsFound : Kind → List Event → Found → Type 0
IsFound kind h found.Nothing = Unit {0}
IsFound kind h (found.Order order of) = (of ≤ length h) × IsLegalOrderAs kind (take of h) order.items
IsFound kind h (found.Failure at) = (at < length h) × IsDeadAt kind h at

-- all that the chain knows is right; and the frontiers of an object that an engine decides are over only for budgets under which all configurations are
-- counted
pub record IsRight (chain : Chain) (h : List Event) : Type 0 where
  pub frontier : IsFrontierLane chain.frontier h
  pub spared : HasExact (kind_in chain) → IsUnder 1024 chain.frontier
  pub beside : IsBeside (kind_in chain) h chain.beside
  pub found : IsFound (kind_in chain) h chain.found
  pub searched : chain.searched ≤ length h

-- its frontiers aren't over for a smaller budget than this
abbrev pub IsFor : ℕ → Chain → Type 0
IsFor budget chain = IsLaneFor budget chain.frontier

-- how the first so many events end, if a search tells, or the engine beside the frontiers
abbrev pub told_by_found : Found → ℕ → Option End
told_by_found found.Nothing count = None
told_by_found (found.Order order of) count = if nat_eq of count then Some Alive else None
told_by_found (found.Failure at) count = if nat_lt at count then Some (Dead at) else None

abbrev pub told_beside : Beside → ℕ → Option End
told_beside Nothing count = None
told_beside (Exact lane) count = told_of lane.said (reach_of_exact lane.engine) lane.mark count
told_beside (Going lane) count = told_of lane.said (reach_of_witness lane.engine) lane.mark count

-- the first of three that is there
abbrev pub first_of : Option End → Option End → Option End
first_of None other = other
first_of (Some end) other = Some end

-- how they end, if the chain tells; frontiers that are over are asked last
abbrev pub told_in : Chain → ℕ → Option End
told_in chain count = first_of (told_by_found chain.found count) (first_of (told_beside chain.beside count) (told_of chain.frontier.said (reach_of_replay chain.frontier.engine) chain.frontier.mark count))

-- how many events are no longer due to the engine beside the frontiers
abbrev pub mark_beside : Beside → ℕ
mark_beside Nothing = 0
mark_beside (Exact lane) = lane.mark
mark_beside (Going lane) = lane.mark

-- what is known of the object
abbrev pub mark_in : Chain → Mark
mark_in chain = record { told = told_in chain; frontier = chain.frontier.mark; beside = mark_beside chain.beside; searched = chain.searched; stopped = chain.stopped }

-- it is told whether the events have a legal order
abbrev pub IsDecided : End → Type 0
IsDecided Alive = Unit {0}
IsDecided (Dead at) = Unit {0}
IsDecided (Over at) = ⊥

abbrev pub IsExactBeside : Beside → Type 0
IsExactBeside Nothing = ⊥
IsExactBeside (Exact lane) = Unit {0}
IsExactBeside (Going lane) = ⊥

-- what telling how the events end keeps
pub record IsKept (budget : ℕ) (h : List Event) (old new : Chain) : Type 0 where
  pub kind : kind_in new ≡ kind_in old
  pub right : IsRight new h
  pub retried : IsFor budget new
  pub frontier : old.frontier.mark ≤ new.frontier.mark
  pub beside : mark_beside old.beside ≤ mark_beside new.beside
  pub stopped : old.stopped ≡ true → new.stopped ≡ true

-- how many frontiers it holds
abbrev pub kept_count : Chain → ℕ
kept_count chain = held_count chain.frontier.engine

-- What an edit at the place leaves: no event from there on isn't due, and each engine goes back to the place or at most 63 events before it, or stays where
-- it was.
pub record IsMarkBefore (place : ℕ) (old new : Mark) : Type 0 where
  pub frontier_back : new.frontier ≤ min old.frontier place
  pub frontier_near : min old.frontier (place / 64 * 64) ≤ new.frontier
  pub frontier_still : old.frontier ≤ place → new.frontier ≡ old.frontier
  pub beside_back : new.beside ≤ min old.beside place
  pub beside_near : min old.beside (place / 64 * 64) ≤ new.beside
  pub beside_still : old.beside ≤ place → new.beside ≡ old.beside
  pub searched : new.searched ≡ min old.searched place
  pub unstopped : new.stopped ≡ false
