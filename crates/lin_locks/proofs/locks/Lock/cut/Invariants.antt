use Rattle.std.proofs.Common.{◌≡◌, List, min}
use Rattle.lin_events.specs.declared.events.Event.{Event}
use Rattle.lin_locks.specs.Locks.{IsLockOf, reached_in}
use Rattle.lin_locks.proofs.locks.Lock.cut.Given as goal

abbrev pub invariant-loop-self : goal.invariant-loop-self
invariant-loop-self l = record {
  told : (h : List Event) → IsLockOf l.initial.self h → IsLockOf l.self h;
  reached : min l.place (reached_in l.self) ≡ min l.place (reached_in l.initial.self);
}

abbrev pub decreases-loop-self : goal.decreases-loop-self
decreases-loop-self l = reached_in l.self
