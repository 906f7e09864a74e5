-- What refutations show.
use Rattle.std.specs.Prelude.{◌≡◌, ◌+◌, ℕ, Bool, List, length, take}
use Rattle.lin_events.specs.declared.items.Item.{Item}
use Rattle.lin_events.specs.declared.calls.Name.{Name}
use Rattle.lin_events.specs.declared.events.Event.{Event}
use Rattle.lin_events.specs.WellFormed.{IsWellFormed}
use Rattle.lin_objects.specs.declared.kinds.Kind.{Kind}
use Rattle.lin_objects.specs.Steps.{Step, start}
use Rattle.lin_order.specs.Linearizable.{IsLinearizableBy}
use Rattle.lin_order.specs.Refutations.{AreConfigurations, Config, IsRefutation, IsSet}

-- a well-formed history that has a refutation is not linearizable
abbrev pub RefutationsExcludeOrders : Type 0
RefutationsExcludeOrders = (functions : Item → Name → Bool) (h : List Event) (kind : Kind) (sets : List (List Config))
    → IsWellFormed functions h → IsRefutation h kind sets → IsLinearizableBy (start kind) (Step kind) h → ⊥

-- where a well-formed history isn't linearizable, the sets of all configurations of its prefixes are a refutation
abbrev pub ExactSetsRefute : Type 0
ExactSetsRefute = (functions : Item → Name → Bool) (h : List Event) (kind : Kind) (sets : List (List Config))
    → IsWellFormed functions h → length sets ≡ length h + 1 → ((i : ℕ) (set : List Config) → IsSet sets i set → AreConfigurations kind (take i h) set)
    → (IsLinearizableBy (start kind) (Step kind) h → ⊥) → IsRefutation h kind sets
