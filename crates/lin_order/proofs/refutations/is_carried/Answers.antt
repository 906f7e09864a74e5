use Rattle.std.proofs.Common.{◌+◌, sym, subst, take, arith}
use Rattle.lin_order.specs.inner.Checking.{AreOpen}
use Rattle.lin_order.specs.Refutations.{lists_of}
use Rattle.lin_order.specs.lemmas.Lists.{yes_since, no_since}
use Rattle.lin_order.proofs.Opening.{none_open}
use Rattle.lin_order.proofs.Sets.{turn_carried, turn_not, carried_all}
use Rattle.lin_order.proofs.refutations.is_carried.Goals as goal

pub loop-at-init : goal.loop-at-init
loop-at-init c = record {
  opened = none_open c.new-pending.result.items c.new-pending.ensures.items;
  carried = λ i event before after none is f s. absurd (omega arith);
}

pub open_after-requires-clause-opened : goal.open_after-requires-clause-opened
open_after-requires-clause-opened c = subst (AreOpen (take c.loop-at.at c.args.events.now)) (sym c.as_slice.ensures.value) c.loop-at.invariant.opened

pub follows-requires-clause-opened : goal.follows-requires-clause-opened
follows-requires-clause-opened c = subst (AreOpen (take (c.loop-at.at + 1) c.args.events.now)) (sym c.as_slice-in-loop-at.ensures.value) c.in_ok-pending.ensures

pub loop-at-preserved : goal.loop-at-preserved
loop-at-preserved c = record {
  opened = c.in_ok-pending.ensures;
  carried =
      turn_carried c.args.events.now c.args.kind c.args.sets.now c.requires.count c.loop-at.at c.loop-at-test.true c.index-sets-at.result c.index-sets-at-in-loop-at.result c.index-sets-at.is c.index-sets-at-in-loop-at.is
      c.as_slice-before.result.now c.as_slice-after.result.now c.as_slice-before.ensures.value c.as_slice-after.ensures.value c.loop-at.invariant.carried (c.in_ok-follows.ensures.0 c.if-not-follows.false);
}

pub returns-then-not-follows : goal.returns-then-not-follows
returns-then-not-follows c =
    no_since (turn_not c.args.events.now c.args.kind c.args.sets.now c.requires.count c.loop-at.at c.loop-at-test.true c.index-sets-at.result c.index-sets-at-in-loop-at.result c.index-sets-at.is c.index-sets-at-in-loop-at.is
    c.as_slice-before.result.now c.as_slice-after.result.now c.as_slice-before.ensures.value c.as_slice-after.ensures.value (λ follow. let yes' = c.in_ok-follows.ensures.1 follow in let no' = c.if-not-follows.true in cc))

pub returns : goal.returns
returns c = yes_since (carried_all c.args.events.now c.args.kind (lists_of c.args.sets.now) c.loop-at.at c.loop-at-test.false c.loop-at.invariant.carried)
