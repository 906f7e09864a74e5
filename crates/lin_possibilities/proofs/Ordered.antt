-- The order of ranks is total.
use Rattle.std.proofs.Common.{ℕ, List}
use Rattle.std.specs.Cmp.{IsTotalOrder}
use Rattle.std.proofs.lemmas.Cmp.{lists_total, nat_cmp_total, on_total, then_total}
use Rattle.lin_names.specs.Spelled.{Spelled, SpelledIsTotal}
use Rattle.lin_possibilities.specs.Ranks.{rank_cmp}

pub rank_total : SpelledIsTotal → IsTotalOrder rank_cmp
rank_total total = then_total (on_total (λ (a : ℕ × List Spelled). a.0) nat_cmp_total) (on_total (λ (a : ℕ × List Spelled). a.1) (lists_total total))
