use Rattle.std.proofs.Common.{◌*◌}
use Rattle.lin_frontier.specs.Walks.{IsTriedAtMost}
use Rattle.lin_engines.specs.Witnesses.{IsLonger}
use Rattle.lin_engines.proofs.witness.Witness.place_behind_another.Given as goal

abbrev pub invariant-loop-number : goal.invariant-loop-number
invariant-loop-number l = record {
  longer : IsLonger l.initial.self l.self;
  tried : IsTriedAtMost (2 * l.number) l.initial.meter l.meter;
}
