use Rattle.std.proofs.Common.{sym, ◌∙◌}
use Rattle.lin_configurations.specs.lemmas.Visiting.{taking_start, taking_turn, taking_end, grown_grown}
use Rattle.lin_compressed_frontier.proofs.completions.Completion.visit_found.Goals as goal

pub loop-config-init : goal.loop-config-init
loop-config-init g c = taking_start _ _ _ _ _ _ _

pub returns-in_err-visit_one-clause-grown : goal.returns-in_err-visit_one-clause-grown
returns-in_err-visit_one-clause-grown g c = grown_grown _ _ _ c.loop-config.invariant.nodes_grown c.visit_one.ensures.grown

pub loop-config-preserved : goal.loop-config-preserved
loop-config-preserved g c =
    taking_turn _ _ _ _ _ _ _ c.loop-config.scratch.next.items c.pop.new.self.items c.loop-config.nodes _ (c.in-Some-pop.config, c.in-Some-pop.placed) c.in-Some-pop.ensures.items c.loop-config.invariant c.visit_one.new.nodes _ c.visit_one.ensures.grown
    (rw (sym c.offers.view_is) at c.in_ok-visit_one.ensures.taken)

pub returns-clause-grown : goal.returns-clause-grown
returns-clause-grown g c = c.loop-config.invariant.nodes_grown

pub returns-clause-some : goal.returns-clause-some
returns-clause-some g c =
    rw c.in-Some.is (rw (sym c.offers.view_is) (taking_end _ _ _ _ _ _ _ c.loop-config.scratch.next.items c.loop-config.nodes _ (sym c.loop-config.scratch.next.ok.0 ∙ c.in_default-pop.ensures.cases.0) c.loop-config.invariant))
