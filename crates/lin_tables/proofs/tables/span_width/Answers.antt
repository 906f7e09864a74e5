use Rattle.std.proofs.Common.{◌∙◌, ap, length, max}
use Rattle.lin_tables.specs.declared.tables.TableRow.{TableRow}
use Rattle.lin_tables.proofs.Widths.{widest_all, widest_next}
use Rattle.lin_tables.proofs.tables.span_width.Goals as goal

pub loop-row-preserved : goal.loop-row-preserved
loop-row-preserved c = widest_next (λ row. row.span.items) c.args.rows.now c.loop-row.row-index c.loop-row.width c.row-item.result c.wider-width.result c.loop-row-test.true c.loop-row.invariant
    (c.wider-width.ensures ∙ ap (max c.loop-row.width) (ap length c.as_slice.ensures.value ∙ ap (λ (row : TableRow). length row.span.items) c.row-item.is))

pub returns : goal.returns
returns c = widest_all (λ row. row.span.items) c.args.rows.now c.loop-row.row-index c.loop-row.width c.loop-row-test.false c.loop-row.invariant
