-- Of which events it is that something is told to be possible after them, and by which orders.
use Rattle.std.specs.Prelude.{◌≡◌, ℕ, List, Contains, length}
use Rattle.lin_events.specs.declared.events.Event.{Event}
use Rattle.lin_events.specs.declared.calls.Reply.{Reply}
use Rattle.lin_objects.specs.declared.kinds.Kind.{Kind}
use Rattle.lin_objects.specs.declared.states.State.{State}
use Rattle.lin_objects.specs.Steps.{Step, start}
use Rattle.lin_order.specs.declared.placed.Placed.{Placed}
use Rattle.lin_order.specs.Configurations.{EndsIn, IsConfiguration}
use Rattle.lin_members.specs.declared.members.Path.{Path}
use Rattle.lin_members.specs.Covers.{HasCrashed}
use Rattle.lin_members.specs.Listed.{config_of}
use Rattle.lin_members.specs.Members.{Member}
use Rattle.lin_members.specs.Rounds.{joined, SpellsRounds}
use Rattle.lin_possibilities.specs.declared.possible.Possible.{Possible}
use Rattle.lin_possibilities.specs.Running.{IsKnown, kind_of}

-- the way with this number tells the order
abbrev pub IsWay : Possible → ℕ → List Placed → Type 0
IsWay possible way order = (rounds : List (List Placed)) × SpellsRounds possible.run.nodes way rounds × (joined rounds ≡ order)

-- of which kind the object is
abbrev pub kind_in : Possible → Kind
kind_in possible = kind_of possible.run

-- the members are configurations of the history, each with a way that ends in it; each configuration has the state of one of them, and what it places of
-- processes that have not crashed, one of them places too; and all events are taken in, so that it can be gone on from there
pub record IsAfter (possible : Possible) (kind : Kind) (h : List Event) : Type 0 where
  pub sound : (m : Member State × Path) → Contains possible.members.items m → (order : List Placed) × IsWay possible m.1.node order × EndsIn (start kind) (Step kind) h order (config_of m)
  pub states : (c : State × List (ℕ × Reply)) → IsConfiguration (start kind) (Step kind) h c → (m : Member State × Path) × Contains possible.members.items m × (m.0.state ≡ c.0)
  pub replies : (c : State × List (ℕ × Reply)) (x : ℕ × Reply) → IsConfiguration (start kind) (Step kind) h c → Contains c.1 x → (HasCrashed h x.0 → ⊥)
      → (m : Member State × Path) × Contains possible.members.items m × Contains m.0.placed x
  pub object : kind_in possible ≡ kind
  pub known : IsKnown possible.run h (length h)
