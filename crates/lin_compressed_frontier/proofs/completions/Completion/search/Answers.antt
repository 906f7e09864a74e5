use Rattle.std.proofs.Common.{◌≡◌, ◌+◌, ◌*◌, ◌++◌, arith, length, length-append, map, subst}
use Rattle.std.proofs.lemmas.List.{length-map}
use Rattle.lin_frontier.specs.Walks.{IsTriedAtMost}
use Rattle.lin_compressed_frontier.proofs.Completing.{IsWorking, none_behind, in_front, in_rest, working_alone, working_next, working_end}
use Rattle.lin_frontier.specs.lemmas.Counting.{tried_none, tried_turn, tried_turns}
use Rattle.lin_configurations.specs.lemmas.Visiting.{grown_grown}
use Rattle.lin_compressed_frontier.proofs.completions.Completion.search.Goals as goal

pub loop-start-init : goal.loop-start-init
loop-start-init g c = record {
  within = omega arith;
  working = working_alone _ _ _ _ _ _ _ c.visited_list-visited.result.items c.args.found.items c.visited_list-visited.ensures c.requires.empty;
  tried = tried_none _ _;
}

pub returns-in_err-found-clause-grown : goal.returns-in_err-found-clause-grown
returns-in_err-found-clause-grown g c = grown_grown _ _ _ c.loop-start.invariant.working.nodes_grown c.take_up.ensures.grown

pub returns-in_err-found-clause-tried : goal.returns-in_err-found-clause-tried
returns-in_err-found-clause-tried g c =
    tried_turns (c.loop-start.start-index + 1) c.args.limit (2 * length c.args.self.now.pending.now + 1) _ _ (omega (arith, c.requires.within, c.loop-start-test.true))
    (tried_turn c.loop-start.start-index (2 * length c.args.self.now.pending.now + 1) _ _ _ c.loop-start.invariant.tried c.take_up.ensures.tried)

pub returns-in_err-visit_found-clause-grown : goal.returns-in_err-visit_found-clause-grown
returns-in_err-visit_found-clause-grown g c =
    grown_grown _ _ _ c.loop-start.invariant.working.nodes_grown (grown_grown _ _ _ c.take_up.ensures.grown c.visit_found.ensures.grown)

pub returns-in_err-visit_found-clause-tried : goal.returns-in_err-visit_found-clause-tried
returns-in_err-visit_found-clause-tried g c =
    tried_turns (c.loop-start.start-index + 1) c.args.limit (2 * length c.args.self.now.pending.now + 1) _ _ (omega (arith, c.requires.within, c.loop-start-test.true))
    (tried_turn c.loop-start.start-index (2 * length c.args.self.now.pending.now + 1) _ _ _ c.loop-start.invariant.tried c.take_up.ensures.tried)

pub loop-start-preserved : goal.loop-start-preserved
loop-start-preserved g c =
    let e = c.in_ok-found.ensures in
    let v = c.in_ok-visit_found.ensures in
    let starts = map (λ m. m.now) c.args.starts.now in
    let here = in_front (λ m. m.now) c.args.starts.now c.loop-start.visited.items c.loop-start.start-index c.start-item.result c.loop-start-test.true c.start-item.is in
    record {
      within = omega (arith, c.loop-start-test.true);
      working = working_next (g.O.SeqObject.step c.args.self.now.object.now) (g.O.SeqObject.observing c.args.self.now.object.now) c.args.self.now.pending.now c.args.self.now.operation.now c.args.self.now.reply.now
          starts c.args.nodes.now c.loop-start.nodes c.take_up.new.nodes c.loop-start.start-index (starts ++ c.loop-start.visited.items) c.loop-start.out.items c.take_up.new.out.items c.start-item.result.now here.0 here.1
          e.grown e.found c.loop-start.invariant.working c.take_up.new.scratch.next.items c.in_ok-found.found c.path-path.result c.visit_found.new.nodes (starts ++ c.visit_found.new.visited.items) c.path-path.ensures
          e.settled e.passed e.offered e.placed v.grown (none_behind c.in_ok-found.found starts _ _ _ _ v.none) v.some;
      tried = tried_turn c.loop-start.start-index (2 * length c.args.self.now.pending.now + 1) _ _ _ c.loop-start.invariant.tried c.take_up.ensures.tried;
    }

pub loop-member-init : goal.loop-member-init
loop-member-init g c =
    let all : c.loop-start.start-index ≡ length c.args.starts.now = omega (arith, c.loop-start-test.false, c.loop-start.invariant.within) in
    record {
      counted = omega arith;
      within = omega (arith, c.requires.within);
      working = subst (λ n. IsWorking (g.O.SeqObject.step c.args.self.now.object.now) (g.O.SeqObject.observing c.args.self.now.object.now) c.args.self.now.pending.now c.args.self.now.operation.now c.args.self.now.reply.now
          (map (λ m. m.now) c.args.starts.now) c.args.nodes.now c.loop-start.nodes n (map (λ m. m.now) c.args.starts.now ++ c.loop-start.visited.items) c.loop-start.out.items) all c.loop-start.invariant.working;
      tried = subst (λ n. IsTriedAtMost (n * (2 * length c.args.self.now.pending.now + 1)) c.args.meter.now c.loop-start.meter) all c.loop-start.invariant.tried;
    }

pub returns-then-tried-limit-clause-tried : goal.returns-then-tried-limit-clause-tried
returns-then-tried-limit-clause-tried g c = tried_turns c.loop-member.tried c.args.limit (2 * length c.args.self.now.pending.now + 1) _ _ c.loop-member.invariant.within c.loop-member.invariant.tried

pub returns-in_err-found-2-clause-grown : goal.returns-in_err-found-2-clause-grown
returns-in_err-found-2-clause-grown g c = grown_grown _ _ _ c.loop-member.invariant.working.nodes_grown c.take_up-in-Some.ensures.grown

pub returns-in_err-found-2-clause-tried : goal.returns-in_err-found-2-clause-tried
returns-in_err-found-2-clause-tried g c =
    tried_turns (c.loop-member.tried + 1) c.args.limit (2 * length c.args.self.now.pending.now + 1) _ _ (omega (arith, c.if-tried-limit.false))
    (tried_turn c.loop-member.tried (2 * length c.args.self.now.pending.now + 1) _ _ _ c.loop-member.invariant.tried c.take_up-in-Some.ensures.tried)

pub returns-in_err-visit_found-2-clause-grown : goal.returns-in_err-visit_found-2-clause-grown
returns-in_err-visit_found-2-clause-grown g c =
    grown_grown _ _ _ c.loop-member.invariant.working.nodes_grown (grown_grown _ _ _ c.take_up-in-Some.ensures.grown c.visit_found-in-Some.ensures.grown)

pub returns-in_err-visit_found-2-clause-tried : goal.returns-in_err-visit_found-2-clause-tried
returns-in_err-visit_found-2-clause-tried g c =
    tried_turns (c.loop-member.tried + 1) c.args.limit (2 * length c.args.self.now.pending.now + 1) _ _ (omega (arith, c.if-tried-limit.false))
    (tried_turn c.loop-member.tried (2 * length c.args.self.now.pending.now + 1) _ _ _ c.loop-member.invariant.tried c.take_up-in-Some.ensures.tried)

pub loop-member-preserved : goal.loop-member-preserved
loop-member-preserved g c =
    let h = rw c.deref.ensures.value at c.in-Some.ensures.lookup in
    let e = c.in_ok-found-2.ensures in
    let v = c.in_ok-visit_found-2.ensures in
    let starts = map (λ m. m.now) c.args.starts.now in
    let here = in_rest (λ m. m.now) c.args.starts.now c.loop-member.visited.items c.loop-member.at c.loop-member.tried c.in-Some.member.now h.3.0 h.1 c.loop-member.invariant.counted in
    record {
      counted = omega (arith, c.loop-member.invariant.counted);
      within = omega (arith, c.if-tried-limit.false);
      working = working_next (g.O.SeqObject.step c.args.self.now.object.now) (g.O.SeqObject.observing c.args.self.now.object.now) c.args.self.now.pending.now c.args.self.now.operation.now c.args.self.now.reply.now
          starts c.args.nodes.now c.loop-member.nodes c.take_up-in-Some.new.nodes c.loop-member.tried (starts ++ c.loop-member.visited.items) c.loop-member.out.items c.take_up-in-Some.new.out.items c.in-Some.member.now here.0 here.1
          e.grown e.found c.loop-member.invariant.working c.take_up-in-Some.new.scratch.next.items c.in_ok-found-2.found c.path-path-in-Some.result c.visit_found-in-Some.new.nodes (starts ++ c.visit_found-in-Some.new.visited.items) c.path-path-in-Some.ensures
          e.settled e.passed e.offered e.placed v.grown (none_behind c.in_ok-found-2.found starts _ _ _ _ v.none) v.some;
      tried = tried_turn c.loop-member.tried (2 * length c.args.self.now.pending.now + 1) _ _ _ c.loop-member.invariant.tried c.take_up-in-Some.ensures.tried;
    }

pub returns-clause-found : goal.returns-clause-found
returns-clause-found g c =
    let h = rw c.deref.ensures.value at c.in_default.ensures.lookup in
    let starts = map (λ m. m.now) c.args.starts.now in
    let past = length-append starts c.loop-member.visited.items in
    let many = length-map c.args.starts.now (λ m. m.now) in
    working_end _ _ _ _ _ _ _ c.loop-member.nodes c.loop-member.tried (starts ++ c.loop-member.visited.items) c.loop-member.out.items (omega (arith, past, many, h.3, c.loop-member.invariant.counted)) c.loop-member.invariant.working

pub returns-clause-tried : goal.returns-clause-tried
returns-clause-tried g c = tried_turns c.loop-member.tried c.args.limit (2 * length c.args.self.now.pending.now + 1) _ _ c.loop-member.invariant.within c.loop-member.invariant.tried
