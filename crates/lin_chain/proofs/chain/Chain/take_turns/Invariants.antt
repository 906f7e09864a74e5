use Rattle.std.proofs.Common.{length, ◌≡◌, ◌≤◌}
use Rattle.lin_order.specs.Parts.{events_at}
use Rattle.lin_chain.specs.Chains.{IsKept, mark_in, told_in}
use Rattle.lin_chain.specs.Work.{IsSpent}
use Rattle.lin_chain.proofs.Chaining.{IsToldDecided}
use Rattle.lin_chain.proofs.chain.Chain.take_turns.Given as goal

abbrev pub invariant-loop-number : goal.invariant-loop-number
invariant-loop-number l = record {
  kept : IsKept l.budget (events_at l.events l.picks) l.fn.self l.self;
  spent : IsSpent (mark_in l.fn.self) (mark_in l.self) (length l.picks) l.fn.meter.steps l.meter.steps;
  idle : IsToldDecided (told_in l.fn.self (length l.picks)) → (l.self ≡ l.fn.self) × (l.meter ≡ l.fn.meter);
  scans : l.meter.scans ≡ l.fn.meter.scans;
}
