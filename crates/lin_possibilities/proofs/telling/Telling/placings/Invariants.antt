use Rattle.std.proofs.Common.{◌≡◌, take}
use Rattle.lin_frontier.specs.Placing.{PlacesOne}
use Rattle.lin_frontier.specs.lemmas.Trying.{IsTriedAll}
use Rattle.lin_possibilities.proofs.telling.Telling.placings.Given as goal

abbrev pub invariant-loop-operation : goal.invariant-loop-operation
invariant-loop-operation g l = record {
  tried : IsTriedAll (λ o p d. PlacesOne (g.O.SeqObject.step l.self.object.now) o l.config p d) (take l.operation-index l.operations) l.out.items;
  steps : l.meter.steps ≡ l.initial.meter.steps;
  scans : l.meter.scans ≡ l.initial.meter.scans;
}
