use Rattle.std.proofs.Common.{◌++◌, ◌∙◌, ap, arith, length, subst, sym}
use Rattle.lin_frontier.specs.Frontiers.{IsNextEvent}
use Rattle.lin_frontier.specs.lemmas.Answered.{if_ok_weaker}
use Rattle.lin_compressed_frontier.proofs.Opened.{no_more, opened_without}
use Rattle.lin_compressed_frontier.proofs.compressed.open_after.Goals as goal

pub returns-in-Some-clause-pending : goal.returns-in-Some-clause-pending
returns-in-Some-clause-pending c =
    if_ok_weaker _ _ (λ after is functions h next.
    opened_without c.well_formed_is_alternating.ensures c.ends_are_unique.ensures c.args.before.now c.args.at c.args.event.now c.in-Some.place c.in-Some.ensures after.items is functions h next) c.all_but.result c.all_but.ensures

pub returns-in-Some-clause-len : goal.returns-in-Some-clause-len
returns-in-Some-clause-len c =
    if_ok_weaker _ _ (λ after is. let many = ap length is in let fewer = no_more c.args.before.now c.in-Some.place in omega arith) c.all_but.result c.all_but.ensures

pub returns-clause-pending : goal.returns-clause-pending
returns-clause-pending c functions h next =
    c.in_ok-take_in.ensures.ok functions h (subst (λ l. IsNextEvent functions h l c.args.at c.args.event.now) (sym (c.in_ok-append_operations.ensures.all ∙ ap (λ l. l ++ c.args.before.now) c.requires)) next)
