use Rattle.std.proofs.Common.{ℕ, List, length, rules}
use Rattle.std.proofs.lemmas.List.Sorted.{answers_always}
use Rattle.lin_events.specs.declared.items.Item.{Item}
use Rattle.lin_sets.proofs.Sorting.{sorted_pairs}
use Rattle.lin_sets.proofs.sizes.in_order.Goals as goal

pub returns-clause-rising : goal.returns-clause-rising
returns-clause-rising c = sorted_pairs (λ (r : ℕ × List Item). (length r.1, r.0)) c.sort_unstable_by_key.new.self.items
    (c.sort_unstable_by_key.ensures.sorted (λ (r : ℕ × List Item). (length r.1, r.0)) (answers_always _ _ _ (λ f a r g h. search rules)))
