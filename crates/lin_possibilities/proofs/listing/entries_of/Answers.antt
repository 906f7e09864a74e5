use Rattle.std.proofs.Common.{◌+◌, List, subst, sym, take}
use Rattle.std.specs.List.{AllZip}
use Rattle.lin_tables.specs.declared.tables.ListLine.{ListLine}
use Rattle.lin_possibilities.specs.inner.OutcomesTelling.{Leads}
use Rattle.lin_possibilities.proofs.Zips.{zip_more, zip_whole}
use Rattle.lin_possibilities.proofs.listing.entries_of.Goals as goal

pub loop-one-preserved : goal.loop-one-preserved
loop-one-preserved c =
    let by = c.args.leading_by.now in
    let told = c.args.told.now in
    let i = c.loop-one.one-index in
    subst (AllZip (Leads by) (take (i + 1) told)) (sym {A = List ListLine} c.in_ok-push.ensures.items)
    (zip_more (Leads by) told c.loop-one.entries.items i c.one-item.result c.in_ok-entry_of.field-0 c.loop-one-test.true c.one-item.is c.loop-one.invariant c.in_ok-entry_of.ensures)

pub returns : goal.returns
returns c = zip_whole (Leads c.args.leading_by.now) c.args.told.now c.loop-one.entries.items c.loop-one.one-index c.loop-one-test.false c.loop-one.invariant
