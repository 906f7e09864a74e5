use Rattle.std.proofs.Common.{◌≤◌, ◌∙◌, length, sym, arith}
use Rattle.std.proofs.lemmas.Bool.Decides.{nat_tests}
use Rattle.lin_names.specs.Spelled.{spelled, spelled_cmp}
use Rattle.lin_possibilities.proofs.Comparing.{both_end, first_ends, second_ends, difference, no_difference}
use Rattle.lin_possibilities.proofs.ranks.compare_items.Goals as goal

pub loop-at-preserved : goal.loop-at-preserved
loop-at-preserved c =
    let names = c.args.names.now in
    let found = c.in-Some.ensures.lookup in
    c.loop-at.invariant ∙ no_difference spelled_cmp (spelled names) c.args.items.now c.args.others.now c.loop-at.at _ c.in-Some.other.now c.printed_order-order.result
    c.loop-at-test.true found.3.0 found.1 c.printed_order-order.ensures (sym c.is_ne.ensures ∙ c.if-is_ne.false)

pub returns-then-is_ne : goal.returns-then-is_ne
returns-then-is_ne c =
    let names = c.args.names.now in
    let found = c.in-Some.ensures.lookup in
    difference spelled_cmp (spelled names) c.args.items.now c.args.others.now c.loop-at.at _ c.in-Some.other.now c.printed_order-order.result
    c.loop-at-test.true found.3.0 found.1 c.printed_order-order.ensures (sym c.is_ne.ensures ∙ c.if-is_ne.true) ∙ sym c.loop-at.invariant

pub returns-in_default : goal.returns-in_default
returns-in_default c =
    let ended : length c.args.others.now ≤ c.loop-at.at = grind (arith, nat_tests) in
    let more = second_ends spelled_cmp (spelled c.args.names.now) c.args.items.now c.args.others.now c.loop-at.at c.loop-at-test.true ended in
    more ∙ sym c.loop-at.invariant

pub returns-then-items-others : goal.returns-then-items-others
returns-then-items-others c =
    first_ends spelled_cmp (spelled c.args.names.now) c.args.items.now c.args.others.now c.loop-at.at (omega arith) (omega arith) ∙ sym c.loop-at.invariant

pub returns : goal.returns
returns c =
    both_end spelled_cmp (spelled c.args.names.now) c.args.items.now c.args.others.now c.loop-at.at (omega arith) (omega arith) ∙ sym c.loop-at.invariant
