use Rattle.std.proofs.Common.{◌+◌, arith, length, ◌∙◌, sym, subst}
use Rattle.lin_texts.proofs.PartsOfTexts.{last_part, part_begins, part_ends, part_goes, IsOfPart}
use Rattle.lin_texts.proofs.parts.part_end.Goals as goal

pub loop-at-init : goal.loop-at-init
loop-at-init c = part_begins c.args.division c.args.text.now c.args.from

pub loop-at-preserved : goal.loop-at-preserved
loop-at-preserved c =
    subst (IsOfPart c.args.division c.args.text.now c.args.from (c.loop-at.at + 1)) (sym c.next-standing.ensures)
    (part_goes c.args.division c.args.text.now c.args.from c.loop-at.at c.loop-at.standing (omega arith) (omega arith) c.loop-at.invariant
    (sym c.divides.ensures ∙ c.if-divides.false))

pub returns-then-divides-clause-part : goal.returns-then-divides-clause-part
returns-then-divides-clause-part c =
    part_ends c.args.division c.args.text.now c.args.from c.loop-at.at c.loop-at.standing (omega arith) (omega arith) c.loop-at.invariant
    (sym c.divides.ensures ∙ c.if-divides.true)

pub returns-clause-part : goal.returns-clause-part
returns-clause-part c =
    last_part c.args.division c.args.text.now c.args.from c.loop-at.at (length c.args.text.now) c.loop-at.standing (omega arith) (omega arith) c.loop-at.invariant
