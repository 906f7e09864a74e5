use Rattle.std.proofs.Common.{ap, arith, length}
use Rattle.lin_compressed_frontier.proofs.Opened.{no_more, opened_without, some_weaker}
use Rattle.lin_compressed_frontier.proofs.compressed.part_after.Goals as goal

pub returns-in-Some-clause-pending : goal.returns-in-Some-clause-pending
returns-in-Some-clause-pending c =
    some_weaker _ _ (λ after is functions h at next.
    opened_without c.well_formed_is_alternating.ensures c.ends_are_unique.ensures c.args.before.now at c.args.event.now c.in-Some.place c.in-Some.ensures after.now is functions h next) c.part_without.result c.part_without.ensures

pub returns-in-Some-clause-len : goal.returns-in-Some-clause-len
returns-in-Some-clause-len c =
    some_weaker _ _ (λ after is. let many = ap length is in let fewer = no_more c.args.before.now c.in-Some.place in omega arith) c.part_without.result c.part_without.ensures
