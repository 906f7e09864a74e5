use Rattle.std.proofs.Common.{subst, arith}
use Rattle.std.proofs.lemmas.Grind.{common_steps}
use Rattle.lin_members.specs.Settling.{IsThinned}
use Rattle.lin_frontier.specs.lemmas.Answered.{if_ok_weaker}
use Rattle.lin_compressed_frontier.proofs.compressed.keep_members.Goals as goal

pub returns-then-alone-clause-alone : goal.returns-then-alone-clause-alone
returns-then-alone-clause-alone g c =
    if_ok_weaker _ _ (λ out thinned alone. subst (λ l. IsThinned (g.O.SeqObject.observing c.args.object.now) c.args.pending.now l out.items) c.alone_all.ensures thinned) c.thin_members.result c.thin_members.ensures

pub returns-clause-alone : goal.returns-clause-alone
returns-clause-alone g c = grind (arith, common_steps)

pub returns-clause-others : goal.returns-clause-others
returns-clause-others g c = grind (arith, common_steps)

pub returns-then-alone-clause-others : goal.returns-then-alone-clause-others
returns-then-alone-clause-others g c = grind (arith, common_steps)
