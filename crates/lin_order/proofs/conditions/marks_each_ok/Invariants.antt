use Rattle.std.proofs.Common.{◌≡◌, ◌<◌, ℕ, true, false, get_or}
use Rattle.lin_events.specs.declared.calls.Reply.{Reply}
use Rattle.lin_events.specs.Operations.{IsOk}
use Rattle.lin_order.proofs.conditions.marks_each_ok.Given as goal

abbrev pub invariant-loop-at : goal.invariant-loop-at
invariant-loop-at l = (k end : ℕ) (reply : Reply) → k < l.at → IsOk l.events k end reply → get_or l.marks k false ≡ true
