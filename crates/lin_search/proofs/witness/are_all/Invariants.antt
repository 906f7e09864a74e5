use Rattle.std.proofs.Common.{◌≡◌, take}
use Rattle.lin_order.specs.Parts.{events_at}
use Rattle.lin_search.proofs.witness.are_all.Given as goal

abbrev pub invariant-loop-at : goal.invariant-loop-at
invariant-loop-at l = events_at l.events (take l.at l.picks) ≡ take l.at l.events
