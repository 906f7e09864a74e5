use Rattle.std.proofs.Common.{◌+◌, arith, sym, subst, ◌∙◌, ℕ, List, [], Contains}
use Rattle.std.proofs.lemmas.Result.{IfOk-from_err}
use Rattle.std.proofs.lemmas.Option.{get_or_from_slice_get}
use Rattle.lin_events.specs.declared.calls.Reply.{Reply}
use Rattle.lin_members.specs.declared.members.Path.{Path}
use Rattle.lin_members.specs.Listed.{member_at, placing_tries}
use Rattle.lin_frontier.specs.lemmas.Closing.{longer}
use Rattle.lin_frontier.specs.lemmas.Counting.{tried_none, tried_turn, tried_turns}
use Rattle.lin_configurations.proofs.Expanding.{IsReaching, over_members, reaching_start, reaching_there, reaching_next, reaching_end}
use Rattle.lin_configurations.specs.lemmas.Visiting.{grown_grown}
use Rattle.lin_configurations.proofs.expansion.Expansion.reach.Goals as goal
use Rattle.lin_configurations.proofs.expansion.Expansion.reach.Goals.{In_ok-work_off}

pub returns-then-len-budget-clause-over : goal.returns-then-len-budget-clause-over
returns-then-len-budget-clause-over g c functions h well_formed opened spelled different =
    over_members _ _ _ c.args.self.now.pending.now _ c.rounds_spell_members.ensures.ends h c.args.nodes.now c.args.starts c.args.budget (omega (arith, c.if-len-budget.true, c.len.ensures)) spelled different

pub loop-member-init : goal.loop-member-init
loop-member-init g c = record {
  within = omega arith;
  small = omega (arith, c.if-len-budget.false, c.len.ensures);
  reaching = reaching_start _ _ _ _ _ _ _ _ c.requires;
  tried = tried_none _ _;
}

pub work_off-requires : goal.work_off-requires
work_off-requires g c =
    let m = c.in-Some.member.now in
    let there = reaching_there _ _ _ _ _ _ _ _ c.loop-member.nodes c.loop-member.at c.loop-member.found m c.in-Some.ensures.inside (sym (get_or_from_slice_get c.loop-member.found c.loop-member.at c.in-Some.member.now c.in-Some.member.now c.in-Some.ensures.found)) c.loop-member.invariant.reaching in
    record {
      there = subst (λ (path : Path). Contains c.loop-member.found (member_at c.in_ok-config.config [], path)) (sym c.path-path.ensures)
          (subst (λ (d : g.row.O-State.Denot × List (ℕ × Reply)). Contains c.loop-member.found (member_at d [], m.1)) (sym (c.in_ok-config.ensures ∙ c.config.ensures)) there);
    }

-- what the member was worked off to
next : (g : _) (c : In_ok-work_off g) → IsReaching (g.O.SeqObject.starts c.args.self.now.object.now) (g.O.SeqObject.step c.args.self.now.object.now) (g.O.SeqObject.observing c.args.self.now.object.now) c.args.self.now.pending.now
    c.args.self.now.offers.now c.args.self.now.places c.args.nodes.now c.work_off.new.nodes (c.loop-member.at + 1) c.args.starts c.work_off.new.found
next g c =
    let e = c.in_ok-work_off.ensures in
    reaching_next _ _ _ _ _ _ _ _ c.loop-member.nodes c.work_off.new.nodes c.loop-member.at c.loop-member.found c.work_off.new.found c.in-Some.member.now c.in_ok-config.config c.in-Some.ensures.inside (sym (get_or_from_slice_get c.loop-member.found c.loop-member.at c.in-Some.member.now c.in-Some.member.now c.in-Some.ensures.found))
    (c.in_ok-config.ensures ∙ c.config.ensures) e.extended e.taken e.placed c.loop-member.invariant.reaching

pub returns-in_err-work_off-clause-grown : goal.returns-in_err-work_off-clause-grown
returns-in_err-work_off-clause-grown g c = grown_grown _ _ _ c.loop-member.invariant.reaching.extended.nodes_grown c.work_off.ensures.grown

pub returns-then-len-budget-2-clause-grown : goal.returns-then-len-budget-2-clause-grown
returns-then-len-budget-2-clause-grown g c = grown_grown _ _ _ c.loop-member.invariant.reaching.extended.nodes_grown c.work_off.ensures.grown

pub returns-then-len-budget-2-clause-over : goal.returns-then-len-budget-2-clause-over
returns-then-len-budget-2-clause-over g c functions h well_formed opened spelled different =
    let e = (next g (goal.at.returns-then-len-budget-2-clause-over g c).In_ok-work_off).extended in
    over_members _ _ _ c.args.self.now.pending.now _ c.rounds_spell_members.ensures.ends h c.work_off.new.nodes c.work_off.new.found c.args.budget (omega (arith, c.len-in-Some.ensures))
    (e.spelled functions h well_formed opened spelled) (e.different different)

pub loop-member-preserved-else-len-budget-2 : goal.loop-member-preserved-else-len-budget-2
loop-member-preserved-else-len-budget-2 g c =
    let e = c.in_ok-work_off.ensures in
    record {
      within = longer _ _ _ _ c.in-Some.ensures.inside e.extended.grown;
      small = omega (arith, c.len-in-Some.ensures);
      reaching = next g (goal.at.loop-member-preserved-else-len-budget-2 g c).In_ok-work_off;
      tried = tried_turn c.loop-member.at _ _ _ _ c.loop-member.invariant.tried c.work_off.ensures.tried;
    }

pub loop-member-preserved : goal.loop-member-preserved
loop-member-preserved g c =
    let e = c.in_ok-work_off.ensures in
    record {
      within = longer _ _ _ _ c.in-Some.ensures.inside e.extended.grown;
      small = omega (arith, c.len-in-Some.ensures);
      reaching = next g (goal.at.loop-member-preserved g c).In_ok-work_off;
      tried = tried_turn c.loop-member.at _ _ _ _ c.loop-member.invariant.tried c.work_off.ensures.tried;
    }

pub returns-in_err-config-clause-tried : goal.returns-in_err-config-clause-tried
returns-in_err-config-clause-tried g c = tried_turns c.loop-member.at c.args.budget (placing_tries c.args.self.now.places c.args.self.now.pending.now) _ _ (omega (arith, c.loop-member.invariant.within, c.loop-member.invariant.small)) c.loop-member.invariant.tried

pub returns-in_err-work_off-clause-tried : goal.returns-in_err-work_off-clause-tried
returns-in_err-work_off-clause-tried g c =
    tried_turns (c.loop-member.at + 1) c.args.budget _ _ _ (omega (arith, c.in-Some.ensures.inside, c.loop-member.invariant.small)) (tried_turn c.loop-member.at _ _ _ _ c.loop-member.invariant.tried c.work_off.ensures.tried)

pub returns-then-len-budget-2-clause-tried : goal.returns-then-len-budget-2-clause-tried
returns-then-len-budget-2-clause-tried g c =
    tried_turns (c.loop-member.at + 1) c.args.budget _ _ _ (omega (arith, c.in-Some.ensures.inside, c.loop-member.invariant.small)) (tried_turn c.loop-member.at _ _ _ _ c.loop-member.invariant.tried c.work_off.ensures.tried)

pub returns-clause-worked_off : goal.returns-clause-worked_off
returns-clause-worked_off g c =
    reaching_end _ _ _ _ _ _ _ _ c.loop-member.nodes c.loop-member.at c.loop-member.found c.in_default.ensures.past c.loop-member.invariant.reaching

pub returns-clause-tried : goal.returns-clause-tried
returns-clause-tried g c = tried_turns c.loop-member.at c.args.budget (placing_tries c.args.self.now.places c.args.self.now.pending.now) _ _ (omega (arith, c.loop-member.invariant.within, c.loop-member.invariant.small)) c.loop-member.invariant.tried

pub returns-in_err-config-clause-extended : goal.returns-in_err-config-clause-extended
returns-in_err-config-clause-extended g c = IfOk-from_err _ _ c.from_residual.ensures.0

pub returns-in_err-config-clause-over : goal.returns-in_err-config-clause-over
returns-in_err-config-clause-over g c = IfOk-from_err _ _ c.from_residual.ensures.0

pub returns-in_err-config-clause-small : goal.returns-in_err-config-clause-small
returns-in_err-config-clause-small g c = IfOk-from_err _ _ c.from_residual.ensures.0

pub returns-in_err-config-clause-worked_off : goal.returns-in_err-config-clause-worked_off
returns-in_err-config-clause-worked_off g c = IfOk-from_err _ _ c.from_residual.ensures.0

pub returns-in_err-work_off-clause-extended : goal.returns-in_err-work_off-clause-extended
returns-in_err-work_off-clause-extended g c = IfOk-from_err _ _ c.from_residual-in_err-work_off.ensures.0

pub returns-in_err-work_off-clause-over : goal.returns-in_err-work_off-clause-over
returns-in_err-work_off-clause-over g c = IfOk-from_err _ _ c.from_residual-in_err-work_off.ensures.0

pub returns-in_err-work_off-clause-small : goal.returns-in_err-work_off-clause-small
returns-in_err-work_off-clause-small g c = IfOk-from_err _ _ c.from_residual-in_err-work_off.ensures.0

pub returns-in_err-work_off-clause-worked_off : goal.returns-in_err-work_off-clause-worked_off
returns-in_err-work_off-clause-worked_off g c = IfOk-from_err _ _ c.from_residual-in_err-work_off.ensures.0
