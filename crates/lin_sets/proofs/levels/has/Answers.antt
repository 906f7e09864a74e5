use Rattle.std.proofs.Common.{Contains, sym, subst}
use Rattle.lin_events.specs.Items.{item_cmp}
use Rattle.lin_events.specs.lemmas.Rising.{compares_rising}
use Rattle.lin_lists.specs.Sets.{IsRising}
use Rattle.lin_order.specs.lemmas.Lists.{no_since}
use Rattle.lin_sets.proofs.Finding.{not_there}
use Rattle.lin_sets.proofs.levels.has.Goals as goal

pub returns-in-Err : goal.returns-in-Err
returns-in-Err c =
    let items = c.as_slice.ensures.items in
    let rising = subst (IsRising item_cmp) (sym items) c.as_slice.ensures.rising in
    let parts = c.in-Err.ensures.position (compares_rising c.args.item c.as_slice.result.now rising) in
    no_since (λ there. not_there c.args.item c.as_slice.result.now c.in-Err.field-0 parts.0 parts.1 (subst (λ l. Contains l c.args.item) (sym items) there))
