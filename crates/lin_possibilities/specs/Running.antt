-- What is known while events are taken in.
use Rattle.std.specs.Prelude.{ℕ, List, take}
use Rattle.lin_events.specs.declared.events.Event.{Event}
use Rattle.lin_objects.specs.declared.kinds.Kind.{Kind}
use Rattle.lin_objects.specs.Observing.{observes}
use Rattle.lin_objects.specs.Overwriting.{overwrites}
use Rattle.lin_objects.specs.Steps.{Step, start}
use Rattle.lin_frontier.specs.Frontiers.{IsPending}
use Rattle.lin_members.specs.Compressed.{IsCompressed}
use Rattle.lin_possibilities.specs.declared.run.Run.{Run}

-- of which kind its object is
abbrev pub kind_of : Run → Kind
kind_of run = run.object.kind

-- the frontier is one of the first `n` events, and these operations are open then
pub record IsKnown (run : Run) (h : List Event) (n : ℕ) : Type 0 where
  pub compressed : IsCompressed (start (kind_of run)) (Step (kind_of run)) (observes (kind_of run)) (overwrites (kind_of run)) (take n h) run.frontier run.nodes
  pub opened : IsPending (take n h) run.pending.items
