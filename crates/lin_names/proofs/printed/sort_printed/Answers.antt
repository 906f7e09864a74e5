use Rattle.std.proofs.Common.{rules}
use Rattle.std.specs.Ordering.{is_lt}
use Rattle.std.proofs.lemmas.Fn.{always_returns_same}
use Rattle.std.proofs.lemmas.List.MinMax.{ranks_by}
use Rattle.lin_events.specs.declared.items.Item.{Item}
use Rattle.lin_names.specs.Spelled.{spelled, spelled_cmp}
use Rattle.lin_names.specs.lemmas.Printed.{sorted_is_printed, spelled_total}
use Rattle.lin_names.proofs.printed.sort_printed.Goals as goal

pub returns-clause-sorted : goal.returns-clause-sorted
returns-clause-sorted c =
    let names = c.args.names.now in
    sorted_is_printed names c.args.items.now.items c.sort_unstable_by.new.self.items c.sort_unstable_by.ensures.permutation
    (c.sort_unstable_by.ensures.sorted (λ x y. is_lt (spelled_cmp (spelled names x) (spelled names y))) (ranks_by spelled_total (λ (x : Item). spelled names x))
    (always_returns_same _ _ _ (λ a r f' k. search rules)))
