use Rattle.std.proofs.Common.{sym, ◌∙◌, arith}
use Rattle.std.proofs.lemmas.Grind.{common_steps}
use Rattle.std.proofs.lemmas.Map.Views.{Contains-keys_from_lookup}
use Rattle.indexmap.proofs.CallerLemmas.{insert_entry-new}
use Rattle.lin_frontier.specs.lemmas.Absorbing.{absorbing_start, absorbing_skip, absorbing_push, absorbing_end, none_from_not_some, nothing_left}
use Rattle.lin_frontier.proofs.search.absorb.Goals as goal

pub loop-state-init : goal.loop-state-init
loop-state-init g c = absorbing_start _ _ _ _

pub loop-state-preserved : goal.loop-state-preserved
loop-state-preserved g c =
    let there = Contains-keys_from_lookup g.met.O.Steps.same c.in-Some.state c.loop-state.found.entries (sym c.if-not-contains_key.ensures) in
    absorbing_skip _ _ _ _ _ _ _ _ (c.in-Some.state, c.in-Some.placed) c.in-Some.ensures.items there c.loop-state.invariant

pub loop-state-preserved-in-Ok : goal.loop-state-preserved-in-Ok
loop-state-preserved-in-Ok g c =
    let new = insert_entry-new _ c.loop-state.found c.in-Some.state c.in_ok-id.id (none_from_not_some _ (sym c.if-not-contains_key.ensures)) in
    absorbing_push _ _ _ _ _ _ _ _ (c.in-Some.state, c.in-Some.placed) c.in-Some.ensures.items _ _ c.in_ok-id.id (c.in-Ok.ensures.entries ∙ new) c.in_ok-id.ensures.ok c.in_ok-id.ensures.id c.loop-state.invariant

pub returns-clause-taken : goal.returns-clause-taken
returns-clause-taken g c =
    absorbing_end _ _ _ _ _ _ _ (nothing_left _ (sym c.loop-state.rest.ok.0 ∙ c.in_default.ensures.cases.0)) c.loop-state.invariant

pub returns-in-Err-clause-grown : goal.returns-in-Err-clause-grown
returns-in-Err-clause-grown g c = grind (arith, common_steps)
