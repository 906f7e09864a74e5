use Rattle.std.proofs.Common.{◌≡◌, List, length}
use Rattle.lin_order.specs.declared.placed.Placed.{Placed}
use Rattle.lin_frontier.specs.Nodes.{Spells}
use Rattle.lin_frontier.specs.lemmas.Spelling.{IsReading}
use Rattle.lin_frontier.proofs.nodes.Nodes.order.Given as goal

abbrev pub invariant-loop : goal.invariant-loop
invariant-loop l = (length l.order.items ≡ l.counter) × ((order : List Placed) → Spells l.self l.fn.id order → IsReading l.self l.fn.id l.at l.order.items)
