use Rattle.std.proofs.Common.{◌≡◌, ◌≤◌, ◌+◌, Bool, take}
use Rattle.lin_events.specs.declared.calls.Name.{Name}
use Rattle.lin_events.specs.declared.items.Item.{Item}
use Rattle.lin_events.specs.WellFormed.{IsWellFormed}
use Rattle.lin_events.specs.Meters.{ticked}
use Rattle.lin_queues.specs.Engines.{AreDebtsOf}
use Rattle.lin_queues.proofs.failing.failing_event.Given as goal

abbrev pub invariant-loop-at : goal.invariant-loop-at
invariant-loop-at l = record {
  debts : (functions : Item → Name → Bool) → IsWellFormed functions l.events → AreDebtsOf l.debts (take l.at l.events);
  counted : l.meter ≡ record l.fn.meter { steps = ticked l.fn.meter.steps l.at };
  least : l.fn.meter.steps ≤ l.meter.steps;
  most : l.meter.steps ≤ l.fn.meter.steps + l.at;
}
