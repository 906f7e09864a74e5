use Rattle.std.proofs.Common.{length}
use Rattle.lin_sets.specs.Endings.{AreKept, AreListed}
use Rattle.lin_sets.proofs.endings.Endings.forget.Given as goal

abbrev pub invariant-loop : goal.invariant-loop
invariant-loop l = record {
  listed : AreListed l.initial.self → AreListed l.self;
  kept : AreListed l.initial.self → AreKept l.initial.self l.self l.place;
}

abbrev pub decreases-loop : goal.decreases-loop
decreases-loop l = length l.self.listed.items
