use Rattle.std.proofs.Common.{subst}
use Rattle.lin_order.specs.Merging.{lists_of}
use Rattle.lin_order.specs.inner.Merging.{AreRanks, IsTaken}
use Rattle.lin_order.proofs.Turns.{taken_is_merged}
use Rattle.lin_order.proofs.merging.merge.Goals as goal

pub returns-in-Ok-with_capacity : goal.returns-in-Ok-with_capacity
returns-in-Ok-with_capacity c =
    taken_is_merged (lists_of c.args.parts.items) c.in-Ok.ranks.items c.take_in_turn.result.items
    (subst (λ l. AreRanks (lists_of l) c.in-Ok.ranks.items) c.deref.ensures.value c.in-Ok.ensures)
    (subst (λ l. IsTaken (lists_of c.args.parts.items) l c.take_in_turn.result.items) c.deref-in-Ok-with_capacity.ensures.value c.take_in_turn.ensures)
