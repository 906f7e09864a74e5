-- All configurations after the first events of an object, while they are made: cited by the contracts of private functions, and told to whoever asks what is possible.
use Rattle.std.specs.Prelude.{ℕ, List, take}
use Rattle.lin_events.specs.declared.events.Event.{Event}
use Rattle.lin_objects.specs.Steps.{Step, start}
use Rattle.lin_frontier.specs.Frontiers.{IsFrontier, IsPending}
use Rattle.lin_chain.specs.declared.exact.ExactRun.{ExactRun}

-- of the first `n` events all configurations are there, and the operations that are open then
pub record IsExact (exact : ExactRun) (h : List Event) (n : ℕ) : Type 0 where
  pub configurations : IsFrontier (start exact.object.kind) (Step exact.object.kind) (take n h) exact.frontier exact.nodes
  pub opened : IsPending (take n h) exact.pending.items
