use Rattle.std.proofs.Common.{◌≡◌, take, length}
use Rattle.lin_wellformed.proofs.tables.Table.cut.Given as goal

-- no event below the count is taken back
abbrev pub invariant-loop-self : goal.invariant-loop-self
invariant-loop-self l = record {
  kept : take l.count l.self ≡ take l.count l.initial.self;
}

abbrev pub decreases-loop-self : goal.decreases-loop-self
decreases-loop-self l = length l.self
