-- Refutations: sets of configurations, one for each prefix of a history of one object, that together show that it has no legal order.
-- The sets may hold more than the configurations, but have to hold what the conditions below ask for.
use Rattle.std.specs.Prelude.{◌≡◌, ◌↔◌, ◌+◌, ℕ, List, [], Some, All, Contains, length, map, slice_get, take}
use Rattle.std.specs.Global.{Vec}
use Rattle.lin_events.specs.declared.events.Body.{Body}
use Rattle.lin_events.specs.declared.events.Body.TheVariants.{Invoke, Ok, Fail, Info}
use Rattle.lin_events.specs.declared.events.Event.{Event}
use Rattle.lin_events.specs.declared.calls.Reply.{Reply}
use Rattle.lin_events.specs.Operations.{IsEvent}
use Rattle.lin_objects.specs.declared.kinds.Kind.{Kind}
use Rattle.lin_objects.specs.declared.states.State.{State}
use Rattle.lin_objects.specs.Steps.{Step, start}
use Rattle.lin_order.specs.declared.placed.Placed.{Placed}
use Rattle.lin_order.specs.declared.refutations.Refutation.{Refutation}
use Rattle.lin_order.specs.Configurations.{IsConfiguration, IsRising, IsAdded, IsPlacing}

-- a state, and open operations that are placed, by process, with their replies
abbrev pub Config : Type 0
Config = State × List (ℕ × Reply)

-- lists of sets, and the sets of a refutation, as lists of lists
abbrev pub lists_of : List (Vec Config) → List (List Config)
lists_of sets = map (λ set. set.items) sets

abbrev pub sets_of : Refutation → List (List Config)
sets_of refutation = lists_of refutation.sets.items

-- this set stands at the position
abbrev pub IsSet : List (List Config) → ℕ → List Config → Type 0
IsSet sets i set = slice_get sets i ≡ Some set

-- the processes rise in each member
abbrev pub AreRising : List Config → Type 0
AreRising set = All (λ (c : Config). IsRising c.1) set

-- whatever comes of a member by placing one more operation, open in the history, is a member
abbrev pub IsClosed : Kind → List Event → List Config → Type 0
IsClosed kind h set = (c d : Config) (p : Placed) → Contains set c → IsPlacing (Step kind) h c p d → Contains set d

-- what an event of the process leaves of a configuration: an ok those in which the operation is placed with this reply, without it; a
-- fail those in which it isn't placed; an invocation and an info all
abbrev pub IsLeft : ℕ → Body → Config → Config → Type 0
IsLeft process (Invoke call) c d = c ≡ d
IsLeft process (Ok name reply) c d = (c.0 ≡ d.0) × IsAdded process reply d.1 c.1
IsLeft process (Fail name) c d = (c ≡ d) × ((reply : Reply) → Contains c.1 (process, reply) → ⊥)
IsLeft process (Info name) c d = c ≡ d

-- whatever the event leaves of a member of the one set is a member of the other
abbrev pub HoldsLeft : Event → List Config → List Config → Type 0
HoldsLeft event before after = (c d : Config) → Contains before c → IsLeft event.process event.body c d → Contains after d

-- the sets show that the history of an object of the kind has no legal order
pub record IsRefutation (h : List Event) (kind : Kind) (sets : List (List Config)) : Type 0 where
  -- one more set than events
  pub count : length sets ≡ length h + 1
  pub rising : (i : ℕ) (set : List Config) → IsSet sets i set → AreRising set
  -- the first set has the start, with nothing placed
  pub begins : (set : List Config) → IsSet sets 0 set → Contains set (start kind, [])
  -- each set is closed for its prefix
  pub closed : (i : ℕ) (set : List Config) → IsSet sets i set → IsClosed kind (take i h) set
  -- each set holds what the event before it leaves of the set before it
  pub kept : (i : ℕ) (event : Event) (before after : List Config) → IsEvent h i event → IsSet sets i before → IsSet sets (i + 1) after → HoldsLeft event before after
  -- the last set is empty
  pub ends : IsSet sets (length h) []

-- exactly the configurations of the history
abbrev pub AreConfigurations : Kind → List Event → List Config → Type 0
AreConfigurations kind h set = (c : Config) → Contains set c ↔ IsConfiguration (start kind) (Step kind) h c
