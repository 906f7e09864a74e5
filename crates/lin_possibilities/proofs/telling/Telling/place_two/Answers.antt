use Rattle.std.proofs.Common.{◌∙◌, subst, sym}
use Rattle.lin_possibilities.specs.inner.Telling.{AreAdded}
use Rattle.lin_possibilities.proofs.Growing.{going_start, going_next, going_end}
use Rattle.lin_possibilities.proofs.telling.Telling.place_two.Goals as goal

pub loop-one-init : goal.loop-one-init
loop-one-init g c = record {
  going = going_start _ _ _ _ _ _ _ _ _ c.place_all.new.nodes c.place_all.ensures.grown
      (subst (λ l. AreAdded (g.O.SeqObject.starts c.args.self.now.object.now) (g.O.SeqObject.step c.args.self.now.object.now) (g.O.SeqObject.observing c.args.self.now.object.now) c.args.self.now.pending.now c.args.member.now c.args.nodes.now c.place_all.new.nodes l
      c.place_all.new.out.items) c.new-next.ensures.items c.in_ok-place_all.ensures.added);
  steps = c.place_all.ensures.steps;
  scans = c.place_all.ensures.scans;
}

pub loop-one-preserved : goal.loop-one-preserved
loop-one-preserved g c = record {
  going = going_next _ _ _ _ _ _ _ _ _ c.loop-one.next.items c.pop.new.self.items c.loop-one.out.items c.place_all-in-Some.new.out.items c.loop-one.nodes c.place_all-in-Some.new.nodes c.in-Some.one
      c.in-Some.ensures.items c.place_all-in-Some.ensures.grown c.in_ok-place_all-2.ensures.added c.in_ok-place_all-2.ensures.placed c.loop-one.invariant.going;
  steps = c.place_all-in-Some.ensures.steps ∙ c.loop-one.invariant.steps;
  scans = c.place_all-in-Some.ensures.scans ∙ c.loop-one.invariant.scans;
}

pub loop-one-preserved-in_ok-place_all-2 : goal.loop-one-preserved-in_ok-place_all-2
loop-one-preserved-in_ok-place_all-2 g c = record {
  going = going_next _ _ _ _ _ _ _ _ _ c.loop-one.next.items c.pop.new.self.items c.loop-one.out.items c.place_all-in-Some.new.out.items c.loop-one.nodes c.place_all-in-Some.new.nodes c.in-Some.one
      c.in-Some.ensures.items c.place_all-in-Some.ensures.grown c.in_ok-place_all-2.ensures.added c.in_ok-place_all-2.ensures.placed c.loop-one.invariant.going;
  steps = c.place_all-in-Some.ensures.steps ∙ c.loop-one.invariant.steps;
  scans = c.place_all-in-Some.ensures.scans ∙ c.loop-one.invariant.scans;
}

pub returns-clause-placed : goal.returns-clause-placed
returns-clause-placed g c o p d there one =
    going_end _ _ _ _ _ _ _ _ _ c.loop-one.next.items c.loop-one.nodes c.loop-one.out.items (sym c.loop-one.next.ok.0 ∙ c.in_default.ensures.cases.0) c.loop-one.invariant.going d (c.in_ok-place_all.ensures.placed o p d there one)
