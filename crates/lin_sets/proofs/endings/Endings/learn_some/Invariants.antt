use Rattle.std.proofs.Common.{take}
use Rattle.lin_sets.specs.Endings.{AreBy, AreLearned, AreListed}
use Rattle.lin_sets.proofs.endings.Endings.learn_some.Given as goal

abbrev pub invariant-loop-item : goal.invariant-loop-item
invariant-loop-item l = record {
  learned : AreLearned l.initial.self l.self (take l.item-index l.items) l.end;
  listed : AreListed l.initial.self → AreBy l.end l.initial.self → AreListed l.self;
  by : AreBy l.end l.initial.self → AreBy l.end l.self;
}
