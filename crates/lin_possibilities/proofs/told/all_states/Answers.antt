use Rattle.std.proofs.Common.{◌+◌, List, subst, sym, take}
use Rattle.std.specs.List.{AllZip}
use Rattle.lin_possibilities.specs.Ranks.{state_rank}
use Rattle.lin_possibilities.specs.declared.possibilities.Possibility.TheVariants.{State as AState}
use Rattle.lin_possibilities.specs.inner.OutcomesTelling.{IsTold}
use Rattle.lin_possibilities.specs.declared.told.Told.{Told}
use Rattle.lin_possibilities.proofs.Zips.{zip_more, zip_whole}
use Rattle.lin_possibilities.proofs.told.all_states.Goals as goal

pub loop-entry-preserved : goal.loop-entry-preserved
loop-entry-preserved c =
    let names = c.args.names.now in
    let found = c.args.found.now in
    let i = c.loop-entry.entry-index in
    subst (AllZip (IsTold names (state_rank names) AState) (take (i + 1) found)) (sym {A = List Told} c.in_ok-push.ensures.items)
    (zip_more (IsTold names (state_rank names) AState) found c.loop-entry.told.items i c.entry-item.result c.in_ok-told_state.field-0 c.loop-entry-test.true c.entry-item.is c.loop-entry.invariant c.in_ok-told_state.ensures)

pub returns : goal.returns
returns c =
    let names = c.args.names.now in
    zip_whole (IsTold names (state_rank names) AState) c.args.found.now c.loop-entry.told.items c.loop-entry.entry-index c.loop-entry-test.false c.loop-entry.invariant
