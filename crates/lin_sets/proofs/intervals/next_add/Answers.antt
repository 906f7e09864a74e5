use Rattle.std.proofs.Common.{sym, ◌∙◌, arith}
use Rattle.std.proofs.lemmas.Bool.{false≢true}
use Rattle.lin_sets.proofs.Standing.{next_from, none_next, stands_to, stands_inside}
use Rattle.lin_sets.proofs.intervals.next_add.Goals as goal
use Rattle.lin_sets.proofs.intervals.next_add.Goals.{else-after-at-via-then-after-at+else-is_item, else-after-at-via-else-after-at}

pub returns-then-is_item : goal.returns-then-is_item
returns-then-is_item c =
    next_from c.args.adds.now c.args.item c.args.after c.loop-at.at _ c.if-after-at.true c.loop-at-test.true (c.is_item.ensures.0 c.if-is_item.true) c.loop-at.invariant

pub loop-at-preserved : goal.loop-at-preserved
loop-at-preserved c =
    none_next c.args.adds.now c.args.item c.args.after c.loop-at.at c.loop-at.invariant (λ behind stands. elim c.else-after-at.branch [
      | else-after-at-via-then-after-at+else-is_item w ↦
          false≢true (sym w.if-is_item.false ∙ w.is_item.ensures.1 (stands_to c.args.adds.now c.loop-at.at c.args.item _ c.loop-at-test.true stands))
      | else-after-at-via-else-after-at w ↦ let no : ⊥ = omega (arith, behind, w.if-after-at.false) in no
    ])

pub returns : goal.returns
returns c = λ k behind stands. c.loop-at.invariant k behind (omega (arith, stands_inside c.args.adds.now k c.args.item stands, c.loop-at-test.false)) stands
