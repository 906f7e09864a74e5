use Rattle.std.proofs.Common.{[], ◌∷◌, ◌+◌, arith, refl, subst, take}
use Rattle.std.proofs.lemmas.List.{take_all}
use Rattle.std.proofs.lemmas.Option.{IfSome_then}
use Rattle.lin_members.specs.Listed.{with_offers}
use Rattle.lin_frontier.specs.lemmas.Answered.{from_some, from_none}
use Rattle.lin_frontier.specs.lemmas.Counting.{tried_none, tried_more}
use Rattle.lin_frontier.specs.lemmas.Each.{all_more, contains_here}
use Rattle.lin_configurations.proofs.Expanding.{extended_bare, over_members}
use Rattle.lin_configurations.proofs.Gathering.{AreChosen, IsGathering, gathering_start, gathering_next, chosen_next, gathered_listing}
use Rattle.lin_configurations.proofs.Merging.{alone_bare, none_maps, some_maps}
use Rattle.lin_configurations.specs.lemmas.Onward.{spelled_stays}
use Rattle.lin_configurations.specs.lemmas.Visiting.{grown_grown}
use Rattle.lin_configurations.proofs.listing.listed.Goals as goal
use Rattle.lin_configurations.proofs.listing.listed.Goals.{In_ok-merge, Joined-none-2}

pub loop-member-init : goal.loop-member-init
loop-member-init g c = record {
  gathering = gathering_start _ _ _ _ _ _ _ _ refl c.new-all.ensures;
  tried = tried_none _ _;
}

pub returns-in_err-found-clause-grown : goal.returns-in_err-found-clause-grown
returns-in_err-found-clause-grown g c = grown_grown _ _ _ c.loop-member.invariant.gathering.nodes_grown c.spread.ensures.grown

pub returns-in_err-found-clause-tried : goal.returns-in_err-found-clause-tried
returns-in_err-found-clause-tried g c = tried_more 0 0 _ _ _ _ (omega arith) c.loop-member.invariant.tried c.spread.ensures.tried

pub returns-in_default-clause-grown : goal.returns-in_default-clause-grown
returns-in_default-clause-grown g c = grown_grown _ _ _ c.loop-member.invariant.gathering.nodes_grown c.spread.ensures.grown

pub returns-in_default-clause-over : goal.returns-in_default-clause-over
returns-in_default-clause-over g c functions h well_formed opened spelled =
    let there = contains_here c.args.members.now c.loop-member.member-index c.member-item.result c.loop-member-test.true c.member-item.is in
    from_none _ c.in_default.is c.in_ok-found.ensures.over functions h well_formed opened
    (spelled_stays _ _ _ h _ _ c.member-item.result c.loop-member.invariant.gathering.nodes_grown (spelled c.member-item.result there))

pub returns-in_default-clause-tried : goal.returns-in_default-clause-tried
returns-in_default-clause-tried g c = tried_more 0 0 _ _ _ _ (omega arith) c.loop-member.invariant.tried c.spread.ensures.tried

pub merge-requires : goal.merge-requires
merge-requires g c = extended_bare _ _ _ _ _ _ _ (with_offers [] c.member-item.result ∷ []) c.in-Some.found (from_some _ c.in-Some.is c.in_ok-found.ensures.extended) (alone_bare c.member-item.result)

pub returns-in_err-merge-clause-grown : goal.returns-in_err-merge-clause-grown
returns-in_err-merge-clause-grown g c = grown_grown _ _ _ c.loop-member.invariant.gathering.nodes_grown c.spread.ensures.grown

pub returns-in_err-merge-clause-tried : goal.returns-in_err-merge-clause-tried
returns-in_err-merge-clause-tried g c = tried_more 0 0 _ _ _ _ (omega arith) c.loop-member.invariant.tried c.spread.ensures.tried

-- the choices of one member more
next : (g : _) (c : In_ok-merge g) → IsGathering (g.O.SeqObject.starts c.args.object.now) (g.O.SeqObject.step c.args.object.now) (g.O.SeqObject.observing c.args.object.now) c.args.pending.now
    c.args.nodes.now c.spread.new.nodes c.args.members.now (take (c.loop-member.member-index + 1) c.args.members.now) c.merge.new.members
next g c =
    let m = c.member-item.result in
    let h = c.loop-member.invariant.gathering in
    let there = contains_here c.args.members.now c.loop-member.member-index m c.loop-member-test.true c.member-item.is in
    let e = from_some _ c.in-Some.is c.in_ok-found.ensures.extended in
    let w = from_some _ c.in-Some.is c.in_ok-found.ensures.worked_off in
    let all = c.merge.new.members in
    let chosen = chosen_next _ _ _ _ _ _ _ _ _ _ all c.in-Some.found m there e w c.in_ok-merge.ensures h in
    gathering_next _ _ _ _ _ _ _ _ _ _ all c.in-Some.found m there e w c.in_ok-merge.ensures h c.rounds_spell_members.ensures.fewer _
    (all_more c.args.members.now c.loop-member.member-index m c.loop-member-test.true c.member-item.is
    (AreChosen (g.O.SeqObject.starts c.args.object.now) (g.O.SeqObject.step c.args.object.now) (g.O.SeqObject.observing c.args.object.now) c.args.pending.now c.args.nodes.now all) chosen.0 chosen.1)

pub returns-then-len-budget-clause-grown : goal.returns-then-len-budget-clause-grown
returns-then-len-budget-clause-grown g c = grown_grown _ _ _ c.loop-member.invariant.gathering.nodes_grown c.spread.ensures.grown

pub returns-then-len-budget-clause-over : goal.returns-then-len-budget-clause-over
returns-then-len-budget-clause-over g c functions h well_formed opened spelled =
    let n = next g (goal.at.returns-then-len-budget-clause-over g c).In_ok-merge in
    over_members _ _ _ c.args.pending.now [] c.rounds_spell_members.ensures.ends h c.spread.new.nodes c.merge.new.members c.args.budget (omega (arith, c.if-len-budget.true, c.len.ensures))
    (n.spelled functions h well_formed opened spelled) n.different

pub returns-then-len-budget-clause-tried : goal.returns-then-len-budget-clause-tried
returns-then-len-budget-clause-tried g c = tried_more 0 0 _ _ _ _ (omega arith) c.loop-member.invariant.tried c.spread.ensures.tried

pub loop-member-preserved : goal.loop-member-preserved
loop-member-preserved g c = record {
  gathering = next g (goal.at.loop-member-preserved g c).In_ok-merge;
  tried = tried_more 0 0 _ _ _ _ (omega arith) c.loop-member.invariant.tried c.spread.ensures.tried;
}

pub reach-requires : goal.reach-requires
reach-requires g c = c.loop-member.invariant.gathering.bare

pub returns-in_err-found-2-clause-grown : goal.returns-in_err-found-2-clause-grown
returns-in_err-found-2-clause-grown g c = grown_grown _ _ _ c.loop-member.invariant.gathering.nodes_grown c.reach.ensures.grown

pub returns-in_err-found-2-clause-tried : goal.returns-in_err-found-2-clause-tried
returns-in_err-found-2-clause-tried g c = tried_more 0 _ _ _ _ _ (omega arith) c.loop-member.invariant.tried c.reach.ensures.tried

pub returns-clause-grown : goal.returns-clause-grown
returns-clause-grown g c = grown_grown _ _ _ c.loop-member.invariant.gathering.nodes_grown c.reach.ensures.grown

-- the choices of all members
all_gathered : (g : _) (c : Joined-none-2 g) → IsGathering (g.O.SeqObject.starts c.args.object.now) (g.O.SeqObject.step c.args.object.now) (g.O.SeqObject.observing c.args.object.now) c.args.pending.now
    c.args.nodes.now c.loop-member.nodes c.args.members.now c.args.members.now c.loop-member.all
all_gathered g c = subst (λ l. IsGathering (g.O.SeqObject.starts c.args.object.now) (g.O.SeqObject.step c.args.object.now) (g.O.SeqObject.observing c.args.object.now) c.args.pending.now
    c.args.nodes.now c.loop-member.nodes c.args.members.now l c.loop-member.all) (take_all c.loop-member.member-index c.args.members.now c.loop-member-test.false) c.loop-member.invariant.gathering

pub returns-clause-listing : goal.returns-clause-listing
returns-clause-listing g c =
    some_maps c.in_ok-found-2.found _ _ _ (λ out e w functions h well_formed opened covering.
    gathered_listing _ _ _ _ c.members_cover_configurations.ensures.listing (g.O.SeqObject.unchanged c.args.object.now) c.ends_are_unique.ensures c.well_formed_is_alternating.ensures _ _ _ _ _ out
    (all_gathered g c) e w functions h well_formed opened covering)
    (rw c.none-none.ensures at c.in_ok-found-2.ensures.extended) (rw c.none-none.ensures at c.in_ok-found-2.ensures.worked_off)

pub returns-clause-bare : goal.returns-clause-bare
returns-clause-bare g c = IfSome_then c.in_ok-found-2.found c.in_ok-found-2.ensures.extended (λ out e. extended_bare _ _ _ _ _ _ _ _ _ e c.loop-member.invariant.gathering.bare)

pub returns-clause-different : goal.returns-clause-different
returns-clause-different g c = IfSome_then c.in_ok-found-2.found c.in_ok-found-2.ensures.extended (λ out e. e.different c.loop-member.invariant.gathering.different)

pub returns-clause-over : goal.returns-clause-over
returns-clause-over g c =
    none_maps c.in_ok-found-2.found (λ over functions h well_formed opened spelled. over functions h well_formed opened
    (c.loop-member.invariant.gathering.spelled functions h well_formed opened spelled) c.loop-member.invariant.gathering.different)
    (rw c.none-none.ensures at c.in_ok-found-2.ensures.over)

pub returns-clause-tried : goal.returns-clause-tried
returns-clause-tried g c = tried_more 0 _ _ _ _ _ (omega arith) c.loop-member.invariant.tried c.reach.ensures.tried
