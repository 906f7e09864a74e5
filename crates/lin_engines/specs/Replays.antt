-- What is kept of the first events of an object, so that more can be taken in, and so that it can be gone back to fewer.
use Rattle.std.specs.Prelude.{◌≡◌, ◌+◌, ◌*◌, ◌<◌, ◌≤◌, ◌⊎◌, ℕ, List, Option, Some, None, AllPairs, length, take, slice_get, is_some, if◌then◌else◌}
use Rattle.lin_events.specs.declared.events.Event.{Event}
use Rattle.lin_objects.specs.declared.kinds.Kind.{Kind}
use Rattle.lin_objects.specs.declared.states.State.{State}
use Rattle.lin_objects.specs.Observing.{observes}
use Rattle.lin_objects.specs.Overwriting.{overwrites}
use Rattle.lin_objects.specs.Steps.{Step, start}
use Rattle.lin_order.specs.declared.placed.Placed.{Placed}
use Rattle.lin_members.specs.declared.members.Path.{Path}
use Rattle.lin_frontier.specs.declared.opens.OpenList.{OpenList}
use Rattle.lin_frontier.specs.declared.opens.OpenMark.{OpenMark}
use Rattle.lin_frontier.specs.Opens.{IsEarlier, IsPast}
use Rattle.lin_members.specs.Compressed.{IsCompressed}
use Rattle.lin_frontier.specs.Frontiers.{IsPending}
use Rattle.lin_members.specs.Members.{Member}
use Rattle.lin_engines.specs.declared.replay.Checkpoint.{Checkpoint}
use Rattle.lin_engines.specs.declared.lane.Lane.{Lane}
use Rattle.lin_engines.specs.declared.replay.Replay.{Replay}
use Rattle.lin_engines.specs.Lanes.{IsLane, IsOfFrontier}

-- what a frontier holds
abbrev pub Members : Type 0
Members = List (Member State × Path)

-- the nodes that spell its members in rounds
abbrev pub Links : Type 0
Links = List (ℕ × (Placed × Option ℕ))

-- how many frontiers are held: those of the checkpoints, and the present one
abbrev pub held_count : Replay → ℕ
held_count replay = length replay.checkpoints.items + (if is_some replay.present then 1 else 0)

-- the frontier is one of the events, and isn't empty
pub record IsKnown (kind : Kind) (h : List Event) (frontier : Members) (nodes : Links) : Type 0 where
  pub compressed : IsCompressed (start kind) (Step kind) (observes kind) (overwrites kind) h frontier nodes
  pub some : 0 < length frontier

-- the checkpoint is right for the first `place` events
pub record IsCheckpoint (replay : Replay) (h : List Event) (place : ℕ) (checkpoint : Checkpoint) : Type 0 where
  pub known : IsKnown replay.object.kind (take place h) checkpoint.frontier (take checkpoint.nodes replay.nodes)
  pub past : IsPast replay.pending h place checkpoint.opened
  pub nodes : checkpoint.nodes ≤ length replay.nodes

-- of two checkpoints the one ahead
abbrev pub IsAhead : Checkpoint → Checkpoint → Type 0
IsAhead first second = (first.nodes ≤ second.nodes) × IsEarlier first.opened second.opened

-- each mark that was right for no more events still is
abbrev pub KeepsPast : ℕ → List Event → OpenList → OpenList → Type 0
KeepsPast of h old new = (place : ℕ) (mark : OpenMark) → place ≤ of → IsPast old h place mark → IsPast new h place mark

-- There is a checkpoint at each 64th place before the last of the first `reached` events. What is known after these is what the present frontier
-- says, and where there is none the last checkpoint.
pub record IsReplay (replay : Replay) (h : List Event) : Type 0 where
  pub within : replay.reached ≤ length h
  pub enough : replay.reached ≤ 64 * length replay.checkpoints.items
  pub few : 64 * length replay.checkpoints.items ≤ replay.reached + 64
  pub checkpoints : (k : ℕ) (checkpoint : Checkpoint) → slice_get replay.checkpoints.items k ≡ Some checkpoint → IsCheckpoint replay h (64 * k) checkpoint
  pub rising : AllPairs IsAhead replay.checkpoints.items
  pub opened : IsPending (take replay.reached h) replay.pending.operations.items
  pub present : (frontier : Members) → replay.present ≡ Some frontier → IsKnown replay.object.kind (take replay.reached h) frontier replay.nodes
  pub last : replay.present ≡ None → (k : ℕ) (checkpoint : Checkpoint) → slice_get replay.checkpoints.items k ≡ Some checkpoint → k + 1 ≡ length replay.checkpoints.items
      → (64 * k ≡ replay.reached) × (checkpoint.nodes ≡ length replay.nodes)

-- this is the present frontier, or where there is none the last checkpoint's
abbrev pub IsCurrent : Option Members → List Checkpoint → Members → Type 0
IsCurrent present checkpoints frontier = (present ≡ Some frontier)
    ⊎ ((present ≡ None) × (k : ℕ) × (checkpoint : Checkpoint) × (slice_get checkpoints k ≡ Some checkpoint) × (k + 1 ≡ length checkpoints) × (checkpoint.frontier ≡ frontier))

-- it is ready for one more event
pub record IsPrepared (replay : Replay) (h : List Event) : Type 0 where
  pub right : IsReplay replay h
  pub before : replay.reached < 64 * length replay.checkpoints.items

-- of which kind its object is, and how many events it has taken in
abbrev pub kind_of_replay : Replay → Kind
kind_of_replay replay = replay.object.kind

abbrev pub reach_of_replay : Replay → ℕ
reach_of_replay replay = replay.reached

-- as an engine, with its mark
abbrev pub IsFrontierLane : Lane Replay → List Event → Type 0
IsFrontierLane lane h = IsLane IsReplay kind_of_replay reach_of_replay IsOfFrontier lane h

pub replay_within : (replay : Replay) (h : List Event) → IsReplay replay h → replay.reached ≤ length h
replay_within replay h right = right.within
