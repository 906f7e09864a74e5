use Rattle.std.proofs.lemmas.List.Elements.{Contains-get_or}
use Rattle.lin_compressed_frontier.proofs.Completing.{returning_start, returning_turn}
use Rattle.lin_configurations.specs.lemmas.Visiting.{grown_grown}
use Rattle.lin_compressed_frontier.proofs.completions.Completion.update.Goals as goal

pub loop-state-init : goal.loop-state-init
loop-state-init g c =
    let sound = rw c.state.ensures at c.in_ok-outcomes.ensures.sound in
    let complete = rw c.state.ensures at c.in_ok-outcomes.ensures.complete in
    returning_start _ _ _ _ _ _ _ _ c.outcomes.new.out.items (λ k d l. sound _ _ (Contains-get_or c.outcomes.new.out.items k d l)) (λ a p. complete a.0 a.1 p)

pub returns-in_err-put_update-clause-grown : goal.returns-in_err-put_update-clause-grown
returns-in_err-put_update-clause-grown g c = grown_grown _ _ _ c.loop-state.invariant.nodes_grown c.put_update.ensures.grown

pub loop-state-preserved : goal.loop-state-preserved
loop-state-preserved g c =
    returning_turn _ _ _ _ _ _ _ _ c.loop-state.steps.items c.pop.new.self.items c.loop-state.nodes c.put_update.new.nodes c.loop-state.out.items c.put_update.new.out.items (c.in-Some.state, c.in-Some.reply) c.in_ok-offers.offers
    c.in-Some.ensures.items c.put_update.ensures.grown c.in_ok-offers.ensures.offered c.requires c.in_ok-put_update.ensures.taken c.loop-state.invariant
