use Rattle.std.proofs.Common.{◌≡◌, subst}
use Rattle.std.proofs.lemmas.List.Filters.{dedup_is}
use Rattle.lin_lists.specs.Sets.{IsRising, members_of}
use Rattle.lin_events.specs.Items.{item_cmp}
use Rattle.lin_events.specs.lemmas.Rising.{members_are, sorted_are_members}
use Rattle.lin_events.proofs.lists.in_order.Goals as goal
use Rattle.lin_events.proofs.lists.in_order.Goals.{After-dedup}

-- the items that are kept
kept : (c : After-dedup) → IsRising item_cmp c.dedup.new.self.items × (c.dedup.new.self.items ≡ members_of item_cmp c.args.items.items)
kept c = sorted_are_members c.args.items.items c.sort_unstable.new.self.items c.dedup.new.self.items
    c.sort_unstable.ensures.permutation c.sort_unstable.ensures.sorted (dedup_is _ _ _ c.dedup.ensures.filtered)

pub returns-then-not-is_rising-clause-rising : goal.returns-then-not-is_rising-clause-rising
returns-then-not-is_rising-clause-rising c = (kept c).0

pub returns-then-not-is_rising-clause-members : goal.returns-then-not-is_rising-clause-members
returns-then-not-is_rising-clause-members c = (kept c).1

pub returns-else-not-is_rising-clause-members : goal.returns-else-not-is_rising-clause-members
returns-else-not-is_rising-clause-members c =
    let rising : IsRising item_cmp c.as_slice.result.now = c.is_rising.ensures.0 c.if-not-is_rising.false in
    members_are c.args.items.items c.args.items.items (subst (IsRising item_cmp) c.as_slice.ensures.value rising) (λ y. (λ h. h, λ h. h))
