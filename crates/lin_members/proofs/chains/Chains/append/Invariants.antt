use Rattle.std.proofs.Common.{◌≡◌, ◌++◌, List, length}
use Rattle.lin_order.specs.declared.placed.Placed.{Placed}
use Rattle.lin_frontier.specs.Nodes.{Spells}
use Rattle.lin_frontier.specs.lemmas.Spelling.{IsReading}
use Rattle.lin_members.proofs.chains.Chains.append.Given as goal

abbrev pub invariant-loop : goal.invariant-loop
invariant-loop l =
    (read : List Placed) × (l.order.items ≡ l.fn.order.items ++ read) × (length read ≡ l.counter)
    × ((round : List Placed) → Spells l.self.links.items l.fn.from round → IsReading l.self.links.items l.fn.from l.at read)
