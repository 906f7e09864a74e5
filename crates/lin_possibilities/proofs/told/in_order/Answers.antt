use Rattle.std.proofs.Common.{is_lt, rules}
use Rattle.std.proofs.lemmas.Fn.{always_returns_same}
use Rattle.std.proofs.lemmas.List.Sorted.{ranks_by}
use Rattle.lin_possibilities.specs.Ranks.{rank_cmp}
use Rattle.lin_possibilities.specs.inner.OutcomesTelling.{rank_in}
use Rattle.lin_possibilities.specs.declared.told.Told.{Told}
use Rattle.lin_possibilities.proofs.Ordered.{rank_total}
use Rattle.lin_possibilities.proofs.told.in_order.Goals as goal

pub returns-clause-rising : goal.returns-clause-rising
returns-clause-rising c =
    let names = c.args.names.now in
    c.sort_unstable_by.ensures.sorted (λ (a b : Told). is_lt (rank_cmp (rank_in names a.rank) (rank_in names b.rank))) (ranks_by (rank_total c.spelled_is_total.ensures.order) (λ (t : Told). rank_in names t.rank))
    (always_returns_same _ _ _ (λ a r g h. search rules))
