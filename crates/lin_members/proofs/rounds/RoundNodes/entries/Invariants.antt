use Rattle.std.proofs.Common.{◌≡◌, ℕ, List, Option, length}
use Rattle.lin_order.specs.declared.placed.Placed.{Placed}
use Rattle.lin_frontier.specs.Nodes.{Spells}
use Rattle.lin_frontier.specs.lemmas.Spelling.{IsReading}
use Rattle.lin_members.proofs.rounds.RoundNodes.entries.Given as goal

abbrev pub invariant-loop : goal.invariant-loop
invariant-loop l = (length l.entries.items ≡ l.counter) × ((entries : List (Placed × Option ℕ)) → Spells l.self l.fn.id entries → IsReading l.self l.fn.id l.at l.entries.items)
