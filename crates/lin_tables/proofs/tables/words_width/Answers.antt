use Rattle.std.proofs.Common.{◌∙◌, ap, length, max}
use Rattle.lin_tables.specs.declared.tables.ListLine.{ListLine}
use Rattle.lin_tables.proofs.Widths.{widest_all, widest_next}
use Rattle.lin_tables.proofs.tables.words_width.Goals as goal

pub loop-entry-preserved : goal.loop-entry-preserved
loop-entry-preserved c = widest_next (λ entry. entry.words.items) c.args.entries.now c.loop-entry.entry-index c.loop-entry.width c.entry-item.result c.wider-width.result c.loop-entry-test.true c.loop-entry.invariant
    (c.wider-width.ensures ∙ ap (max c.loop-entry.width) (ap length c.as_slice.ensures.value ∙ ap (λ (entry : ListLine). length entry.words.items) c.entry-item.is))

pub returns : goal.returns
returns c = widest_all (λ entry. entry.words.items) c.args.entries.now c.loop-entry.entry-index c.loop-entry.width c.loop-entry-test.false c.loop-entry.invariant
