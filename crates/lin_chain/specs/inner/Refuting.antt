-- The sets of a refutation while they are made: cited by the contracts of private functions alone.
use Rattle.std.specs.Prelude.{◌≡◌, ◌+◌, ℕ, List, Some, length, slice_get, take}
use Rattle.std.specs.Global.{Vec}
use Rattle.lin_events.specs.declared.events.Event.{Event}
use Rattle.lin_order.specs.Refutations.{AreConfigurations, Config}
use Rattle.lin_chain.specs.Exact.{IsExact}
use Rattle.lin_chain.specs.declared.refuting.Builder.{Builder}

-- of the first `n` events, and of each shorter beginning, all configurations are there; and what is needed to go on
pub record AreBuilt (builder : Builder) (h : List Event) (n : ℕ) : Type 0 where
  pub exact : IsExact builder.exact h n
  pub count : length builder.sets.items ≡ n + 1
  pub sets : (i : ℕ) (set : Vec Config) → slice_get builder.sets.items i ≡ Some set → AreConfigurations builder.exact.object.kind (take i h) set.items
