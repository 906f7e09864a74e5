use Rattle.std.proofs.Common.{rules}
use Rattle.std.proofs.lemmas.List.Sorted.{answers_always}
use Rattle.lin_sets.specs.declared.effects.Effect.{Effect}
use Rattle.lin_sets.proofs.Sorting.{sorted_pairs}
use Rattle.lin_sets.proofs.effects.in_order.Goals as goal

pub returns-clause-rising : goal.returns-clause-rising
returns-clause-rising c = sorted_pairs (λ (e : Effect). (e.point, e.rank)) c.sort_unstable_by_key.new.self.items
    (c.sort_unstable_by_key.ensures.sorted (λ (e : Effect). (e.point, e.rank)) (answers_always _ _ _ (λ f a r g h. search rules)))
