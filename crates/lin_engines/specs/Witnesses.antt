-- A legal order of the first events of an object, which goes on event by event: each beginning of it that a checkpoint keeps is one of as many first
-- events. Nothing is said of the operations behind it, nor of the hint: an operation of these is placed only by a step of the object.
use Rattle.std.specs.Prelude.{◌≡◌, ◌+◌, ◌*◌, ◌≤◌, ℕ, List, Some, AllPairs, length, take, slice_get}
use Rattle.lin_events.specs.declared.events.Body.{Body}
use Rattle.lin_events.specs.declared.events.Body.TheVariants.{Invoke, Ok, Fail, Info}
use Rattle.lin_events.specs.declared.events.Event.{Event}
use Rattle.lin_events.specs.declared.calls.Reply.{Reply}
use Rattle.lin_objects.specs.declared.kinds.Kind.{Kind}
use Rattle.lin_objects.specs.declared.states.State.{State}
use Rattle.lin_objects.specs.Steps.{Step, start}
use Rattle.lin_order.specs.declared.placed.Placed.{Placed}
use Rattle.lin_order.specs.Configurations.{EndsIn}
use Rattle.lin_frontier.specs.declared.pending.Open.{Open}
use Rattle.lin_frontier.specs.Frontiers.{IsPending}
use Rattle.lin_frontier.specs.Placing.{IsAbsent}
use Rattle.lin_frontier.specs.declared.opens.OpenList.{OpenList}
use Rattle.lin_frontier.specs.Opens.{IsEarlier, IsPast}
use Rattle.lin_engines.specs.declared.witness.Checkpoint.{Checkpoint}
use Rattle.lin_engines.specs.declared.witness.Back.{Back}
use Rattle.lin_engines.specs.declared.witness.Back.TheVariants.{Near, Far}
use Rattle.lin_engines.specs.declared.witness.Witness.{Witness}

-- the open operations
abbrev pub listed : OpenList → List Open
listed opened = opened.operations.items

-- the operations of the order: behind them may stand others
abbrev pub order_in : Witness → List Placed
order_in witness = take witness.length witness.order.items

-- the order is a legal one of the first `of` events, and ends in the configuration
pub record IsReached (kind : Kind) (h : List Event) (of : ℕ) (order : List Placed) (config : State × List (ℕ × Reply)) : Type 0 where
  pub within : of ≤ length h
  pub ends : EndsIn (start kind) (Step kind) (take of h) order config

-- the checkpoint is right for the first `place` events
pub record IsCheckpoint (witness : Witness) (h : List Event) (place : ℕ) (checkpoint : Checkpoint) : Type 0 where
  pub reached : IsReached witness.object.kind h place (take checkpoint.length witness.order.items) checkpoint.config
  pub past : IsPast witness.opened h place checkpoint.opened
  pub shorter : checkpoint.length ≤ witness.length

-- of two checkpoints the one ahead
abbrev pub IsAhead : Checkpoint → Checkpoint → Type 0
IsAhead first second = (first.length ≤ second.length) × IsEarlier first.opened second.opened

-- the order is a witness of the first `of` events, and there is a checkpoint at each 64th place before the last of them
pub record IsWitness (witness : Witness) (h : List Event) : Type 0 where
  pub inside : witness.length ≤ length witness.order.items
  pub reached : IsReached witness.object.kind h witness.of (order_in witness) witness.config
  pub opened : IsPending (take witness.of h) (listed witness.opened)
  pub enough : witness.of ≤ 64 * length witness.checkpoints.items
  pub few : 64 * length witness.checkpoints.items ≤ witness.of + 64
  pub checkpoints : (k : ℕ) (checkpoint : Checkpoint) → slice_get witness.checkpoints.items k ≡ Some checkpoint → IsCheckpoint witness h (64 * k) checkpoint
  pub rising : AllPairs IsAhead witness.checkpoints.items

-- the same events, with more operations placed perhaps, or more checkpoints
pub record IsLonger (old new : Witness) : Type 0 where
  pub object : new.object ≡ old.object
  pub of : new.of ≡ old.of
  pub opened : listed new.opened ≡ listed old.opened
  pub more : length old.checkpoints.items ≤ length new.checkpoints.items
  pub right : (h : List Event) → IsWitness old h → IsWitness new h

-- the event leaves the order as it is: it is no ok, and where it is a fail its operation isn't placed
abbrev pub IsPassed : Event → State × List (ℕ × Reply) → Type 0
IsPassed event config = by event.body
  where
    by : Body → Type 0
    by (Invoke call) = Unit {0}
    by (Ok name reply) = ⊥
    by (Fail name) = IsAbsent event.process config.1
    by (Info name) = Unit {0}

-- how many quarters of the events it may take to mend an order from there
abbrev pub quarters : Back → ℕ
quarters Near = 1
quarters Far = 3
