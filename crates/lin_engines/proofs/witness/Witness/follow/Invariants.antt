use Rattle.lin_frontier.specs.Walks.{IsTriedAtMost}
use Rattle.lin_engines.specs.Witnesses.{IsLonger}
use Rattle.lin_engines.proofs.witness.Witness.follow.Given as goal

abbrev pub invariant-loop : goal.invariant-loop
invariant-loop l = record {
  longer : IsLonger l.initial.self l.self;
  tried : IsTriedAtMost l.counter l.initial.meter l.meter;
}
