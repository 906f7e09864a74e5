use Rattle.std.proofs.Common.{take}
use Rattle.lin_frontier.specs.Placing.{PlacesOne}
use Rattle.lin_frontier.specs.Walks.{IsTriedAtMost}
use Rattle.lin_frontier.specs.lemmas.Trying.{IsTriedAll}
use Rattle.lin_configurations.proofs.expansion.Expansion.placings.Given as goal

abbrev pub invariant-loop-operation : goal.invariant-loop-operation
invariant-loop-operation g l = record {
  placed : IsTriedAll (λ o p d. PlacesOne (g.O.SeqObject.step l.self.object.now) o l.config p d) (take l.operation-index l.self.pending.now) l.out.items;
  tried : IsTriedAtMost l.operation-index l.fn.meter l.meter;
}
