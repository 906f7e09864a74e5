use Rattle.std.proofs.Common.{◌+◌, List, subst, sym, take}
use Rattle.std.specs.List.{AllZip}
use Rattle.std.specs.Prelude.{option_map}
use Rattle.lin_possibilities.specs.Ranks.{reply_rank}
use Rattle.lin_possibilities.specs.declared.possibilities.Possibility.TheVariants.{Reply as AReply}
use Rattle.lin_possibilities.specs.inner.OutcomesTelling.{IsTold}
use Rattle.lin_possibilities.specs.declared.told.Told.{Told}
use Rattle.lin_possibilities.proofs.Zips.{zip_more, zip_whole}
use Rattle.lin_possibilities.proofs.told.all_replies.Goals as goal

pub loop-entry-preserved : goal.loop-entry-preserved
loop-entry-preserved c =
    let names = c.args.names.now in
    let found = c.args.found.now in
    let i = c.loop-entry.entry-index in
    subst (AllZip (IsTold names (reply_rank names (option_map (λ m. m.now) c.args.recorded)) AReply) (take (i + 1) found)) (sym {A = List Told} c.in_ok-push.ensures.items)
    (zip_more (IsTold names (reply_rank names (option_map (λ m. m.now) c.args.recorded)) AReply) found c.loop-entry.told.items i c.entry-item.result c.in_ok-told_reply.field-0 c.loop-entry-test.true c.entry-item.is c.loop-entry.invariant c.in_ok-told_reply.ensures)

pub returns : goal.returns
returns c =
    let names = c.args.names.now in
    zip_whole (IsTold names (reply_rank names (option_map (λ m. m.now) c.args.recorded)) AReply) c.args.found.now c.loop-entry.told.items c.loop-entry.entry-index c.loop-entry-test.false c.loop-entry.invariant
