use Rattle.std.proofs.Common.{sym, ◌∙◌}
use Rattle.lin_configurations.proofs.Expanding.{placing_start, placing_next, placing_end}
use Rattle.lin_configurations.specs.lemmas.Visiting.{grown_grown}
use Rattle.lin_configurations.proofs.expansion.Expansion.place_all.Goals as goal

pub loop-next-init : goal.loop-next-init
loop-next-init g c = record {
  placing = placing_start _ _ _ _ _ _ _ _ _ c.in_ok-out.ensures.sound c.in_ok-out.ensures.complete;
  tried = c.placings.ensures.tried;
}

pub returns-in_err-visit-clause-grown : goal.returns-in_err-visit-clause-grown
returns-in_err-visit-clause-grown g c = grown_grown _ _ _ c.loop-next.invariant.placing.extended.nodes_grown c.visit.ensures.grown

pub loop-next-preserved : goal.loop-next-preserved
loop-next-preserved g c = record {
  placing = placing_next _ _ _ _ _ _ _ _ c.rounds_take_operations.ensures.places c.args.path c.requires.there c.loop-next.out.items c.pop.new.self.items c.loop-next.nodes c.visit.new.nodes c.loop-next.found c.visit.new.found
      (c.in-Some.next, c.in-Some.placed) c.in-Some.ensures.items c.visit.ensures.grown c.in_ok-visit.ensures.taken c.loop-next.invariant.placing;
  tried = c.loop-next.invariant.tried;
}

pub returns-clause-grown : goal.returns-clause-grown
returns-clause-grown g c = c.loop-next.invariant.placing.extended.nodes_grown

pub returns-clause-extended : goal.returns-clause-extended
returns-clause-extended g c = c.loop-next.invariant.placing.extended

pub returns-clause-placed : goal.returns-clause-placed
returns-clause-placed g c =
    placing_end _ _ _ _ _ _ _ _ c.loop-next.out.items c.loop-next.nodes c.loop-next.found (sym c.loop-next.out.ok.0 ∙ c.in_default.ensures.cases.0) c.loop-next.invariant.placing
