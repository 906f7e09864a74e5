use Rattle.std.proofs.Common.{◌≡◌, All, take}
use Rattle.lin_search.proofs.witness.are_of.Given as goal

abbrev pub invariant-loop-event : goal.invariant-loop-event
invariant-loop-event l = All (λ event. event.key ≡ l.key) (take l.event-index l.events)
