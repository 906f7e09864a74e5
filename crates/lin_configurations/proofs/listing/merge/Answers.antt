use Rattle.std.proofs.Common.{Contains, map, sym, subst, ◌∙◌}
use Rattle.lin_members.specs.Listed.{config_of}
use Rattle.lin_configurations.proofs.Merging.{IsMerging, merging_start, merging_skip, merging_push, merging_end}
use Rattle.lin_configurations.proofs.listing.merge.Goals as goal

pub loop-member-init : goal.loop-member-init
loop-member-init g c =
    subst (λ l. IsMerging (g.O.SeqObject.observing c.args.object.now) c.args.pending.now c.args.others l c.args.members.now c.args.members.now) (sym c.into_members-rest.ensures) (merging_start _ _ _ _ c.requires)

pub loop-member-preserved-then-holds : goal.loop-member-preserved-then-holds
loop-member-preserved-then-holds g c =
    let held = c.holds.ensures.held c.if-holds.true (g.O.SeqObject.observing c.args.object.now) in
    merging_skip _ _ _ _ c.loop-member.rest.items c.pop.new.self.items c.loop-member.members c.in-Some.member c.in-Some.ensures.items c.loop-member.invariant c.config.result.now c.config.ensures held

pub loop-member-preserved : goal.loop-member-preserved
loop-member-preserved g c =
    merging_push _ _ _ _ c.loop-member.rest.items c.pop.new.self.items c.loop-member.members c.in-Some.member c.in-Some.ensures.items c.loop-member.invariant c.push.new.self c.config.result.now c.config.ensures
    (c.holds.ensures.new c.if-holds.false) c.in_ok-push.ensures

pub push-requires : goal.push-requires
push-requires g c = λ there. c.holds.ensures.new c.if-holds.false (subst (Contains (map config_of c.loop-member.members)) (sym c.config.ensures) there)

pub returns : goal.returns
returns g c = merging_end _ _ _ _ c.loop-member.rest.items c.loop-member.members (sym c.loop-member.rest.ok.0 ∙ c.in_default.ensures.cases.0) c.loop-member.invariant
