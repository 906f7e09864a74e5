use Rattle.std.proofs.Common.{◌∙◌, None, subst, sym}
use Rattle.lin_members.specs.declared.members.Path.{Path}
use Rattle.lin_members.specs.Listed.{Continues}
use Rattle.lin_configurations.specs.lemmas.Visiting.{grown_grown}
use Rattle.lin_possibilities.proofs.Growing.{placing_start, placing_next, placing_end}
use Rattle.lin_possibilities.proofs.telling.Telling.place_all.Goals as goal

pub loop-config-init : goal.loop-config-init
loop-config-init g c = record {
  placing = placing_start _ _ _ _ _ _ _ _ _ c.in_ok-rest.rest.items c.config.ensures c.in_ok-rest.ensures.sound c.in_ok-rest.ensures.complete;
  steps = c.placings.ensures.steps;
  scans = c.placings.ensures.scans;
}

pub loop-config-preserved : goal.loop-config-preserved
loop-config-preserved g c = record {
  placing = placing_next _ _ _ _ _ _ _ _ c.rounds_take_operations.ensures.places c.requires c.loop-config.rest.items c.pop.new.self.items c.loop-config.nodes c.bare_next.new.nodes c.loop-config.out.items c.push_member.new.members.items
      (c.in-Some.config, c.in-Some.placed) c.in_ok-next.next c.in-Some.ensures.items c.bare_next.ensures.grown c.in_ok-next.ensures.same
      (subst (λ (p : Path). Continues c.bare_next.new.nodes p c.in_ok-next.next.1 c.in-Some.placed None) c.path.ensures c.in_ok-next.ensures.continued) c.in_ok-push_member.ensures c.loop-config.invariant.placing;
  steps = c.loop-config.invariant.steps;
  scans = c.loop-config.invariant.scans;
}

pub returns-clause-grown : goal.returns-clause-grown
returns-clause-grown g c = c.loop-config.invariant.placing.nodes_grown

pub returns-clause-added : goal.returns-clause-added
returns-clause-added g c = c.loop-config.invariant.placing.added

pub returns-clause-placed : goal.returns-clause-placed
returns-clause-placed g c = placing_end _ _ _ _ _ _ _ _ c.loop-config.rest.items c.loop-config.nodes c.loop-config.out.items (sym c.loop-config.rest.ok.0 ∙ c.in_default.ensures.cases.0) c.loop-config.invariant.placing

pub returns-in_err-next-clause-grown : goal.returns-in_err-next-clause-grown
returns-in_err-next-clause-grown g c = grown_grown _ _ _ c.loop-config.invariant.placing.nodes_grown c.bare_next.ensures.grown

pub returns-in_err-push_member-clause-grown : goal.returns-in_err-push_member-clause-grown
returns-in_err-push_member-clause-grown g c = grown_grown _ _ _ c.loop-config.invariant.placing.nodes_grown c.bare_next.ensures.grown
