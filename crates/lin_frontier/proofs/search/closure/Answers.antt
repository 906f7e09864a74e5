use Rattle.std.proofs.Common.{◌+◌, ◌++◌, sym, ap, ◌∙◌, arith, append_assoc, refl}
use Rattle.lin_frontier.specs.lemmas.Closing.{IsClosing, closing_start, closing_step, closing_end, begins_in, traced_start, beyond_from, entries_differ, ended, longer}
use Rattle.lin_frontier.specs.lemmas.Counting.{tried_none, tried_turn, tried_turns}
use Rattle.lin_frontier.proofs.search.closure.Goals as goal
use Rattle.lin_frontier.proofs.search.closure.Goals.{In_ok-absorb}

pub returns-then-len-budget-clause-over : goal.returns-then-len-budget-clause-over
returns-then-len-budget-clause-over g c =
    beyond_from g.met.O.State.Eq.laws g.met.O.Steps.same _ _ c.args.nodes.now c.args.nodes.now c.args.budget c.args.starts.entries (omega arith) c.len.ensures.unique (traced_start _ _ _)

pub returns-then-len-budget-clause-tried : goal.returns-then-len-budget-clause-tried
returns-then-len-budget-clause-tried g c = tried_none _ _

pub loop-state-init : goal.loop-state-init
loop-state-init g c = record {
  within = omega arith;
  small = omega arith;
  unique = c.len.ensures.unique;
  closing = closing_start _ _ _;
  tried = tried_none _ _;
}

-- the outcomes of the state at the place have been taken in
taken_in : (g : _) (c : In_ok-absorb g) → IsClosing (g.O.Steps.step c.args.object.now) c.args.starts.entries c.args.nodes.now c.absorb.new.nodes (c.loop-state.at + 1) c.absorb.new.found.entries
taken_in g c =
    closing_step _ _ _ c.loop-state.at c.loop-state.found.entries c.in_ok-out.out.items c.absorb.new.found.entries c.loop-state.nodes c.absorb.new.nodes (c.in-Some.state.now, c.in-Some.node.now)
    (sym c.in-Some.ensures.entry) c.absorb.ensures.grown c.in_ok-absorb.ensures.taken c.in_ok-out.ensures.sound c.in_ok-out.ensures.complete c.loop-state.invariant.closing

pub returns-in_err-absorb-clause-grown : goal.returns-in_err-absorb-clause-grown
returns-in_err-absorb-clause-grown g c =
    let a = c.loop-state.invariant.closing.grown in
    let b = c.absorb.ensures.grown in
    (a.0 ++ b.0, b.1 ∙ ap (λ l. l ++ b.0) a.1 ∙ append_assoc c.args.nodes.now a.0 b.0)

pub returns-then-len-budget-2-clause-grown : goal.returns-then-len-budget-2-clause-grown
returns-then-len-budget-2-clause-grown g c = (taken_in g (goal.at.returns-then-len-budget-2-clause-grown g c).In_ok-absorb).grown

pub returns-then-len-budget-2-clause-over : goal.returns-then-len-budget-2-clause-over
returns-then-len-budget-2-clause-over g c =
    beyond_from g.met.O.State.Eq.laws g.met.O.Steps.same _ _ c.args.nodes.now c.absorb.new.nodes c.args.budget c.absorb.new.found.entries (omega arith) c.len-in-Some.ensures.unique
    (taken_in g (goal.at.returns-then-len-budget-2-clause-over g c).In_ok-absorb).traced

pub loop-state-preserved : goal.loop-state-preserved
loop-state-preserved g c =
    let k = taken_in g (goal.at.loop-state-preserved g c).In_ok-absorb in
    record {
      within = longer _ _ _ _ (c.in-Some.ensures.found.0 refl) c.in_ok-absorb.ensures.taken.kept;
      small = omega arith;
      unique = c.len-in-Some.ensures.unique;
      closing = k;
      tried = tried_turn c.loop-state.at _ _ _ _ c.loop-state.invariant.tried c.outcomes.ensures.tried;
    }

pub returns-clause-closure : goal.returns-clause-closure
returns-clause-closure g c =
    let i = c.loop-state.invariant in
    let past = ended _ _ c.in_default.ensures.found.1 in
    record {
      traced = i.closing.traced;
      begins = begins_in _ _ _ c.loop-state.nodes c.loop-state.at c.loop-state.found.entries i.closing;
      closed = closing_end _ _ _ c.loop-state.at c.loop-state.nodes c.loop-state.found.entries past i.closing;
      distinct = entries_differ g.met.O.State.Eq.laws g.met.O.Steps.same c.loop-state.found.entries i.unique;
    }

pub returns-then-len-budget-2-clause-tried : goal.returns-then-len-budget-2-clause-tried
returns-then-len-budget-2-clause-tried g c =
    let inside = c.in-Some.ensures.found.0 refl in
    tried_turns (c.loop-state.at + 1) c.args.budget _ _ _ (omega (arith, c.loop-state.invariant.small)) (tried_turn c.loop-state.at _ _ _ _ c.loop-state.invariant.tried c.outcomes.ensures.tried)

-- the outcomes were tried, whatever became of them
pub returns-in_err-out-clause-tried : goal.returns-in_err-out-clause-tried
returns-in_err-out-clause-tried g c =
    let inside = c.in-Some.ensures.found.0 refl in
    tried_turns (c.loop-state.at + 1) c.args.budget _ _ _ (omega (arith, c.loop-state.invariant.small)) (tried_turn c.loop-state.at _ _ _ _ c.loop-state.invariant.tried c.outcomes.ensures.tried)

pub returns-in_err-absorb-clause-tried : goal.returns-in_err-absorb-clause-tried
returns-in_err-absorb-clause-tried g c =
    let inside = c.in-Some.ensures.found.0 refl in
    tried_turns (c.loop-state.at + 1) c.args.budget _ _ _ (omega (arith, c.loop-state.invariant.small)) (tried_turn c.loop-state.at _ _ _ _ c.loop-state.invariant.tried c.outcomes.ensures.tried)
