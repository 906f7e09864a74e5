use Rattle.std.proofs.Common.{Contains, subst, sym}
use Rattle.std.proofs.lemmas.List.{take_all}
use Rattle.std.proofs.lemmas.Option.{slice_get-get_or}
use Rattle.lin_sets.proofs.Numbering.{those_next, others_next}
use Rattle.lin_sets.proofs.numbers.put_all.Goals as goal

pub loop-item-preserved : goal.loop-item-preserved
loop-item-preserved c = record {
  those = those_next c.args.items.now c.loop-item.item-index c.args.number _ (slice_get-get_or c.args.items.now c.loop-item.item-index _ c.loop-item-test.true)
      c.args.numbers.now.entries c.loop-item.numbers.entries c.put.new.numbers.entries c.in_ok-put.ensures c.loop-item.invariant.those;
  others = others_next c.args.items.now c.loop-item.item-index c.args.number _ (slice_get-get_or c.args.items.now c.loop-item.item-index _ c.loop-item-test.true)
      c.args.numbers.now.entries c.loop-item.numbers.entries c.put.new.numbers.entries c.in_ok-put.ensures c.loop-item.invariant.others;
}

pub returns-clause-those : goal.returns-clause-those
returns-clause-those c = λ n there. c.loop-item.invariant.those n (subst (λ l. Contains l n) (sym (take_all c.loop-item.item-index c.args.items.now c.loop-item-test.false)) there)
