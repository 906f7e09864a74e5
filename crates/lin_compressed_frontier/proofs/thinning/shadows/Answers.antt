use Rattle.std.proofs.Common.{◌∙◌, length, refl}
use Rattle.std.proofs.lemmas.Option.{slice_get_read}
use Rattle.lin_compressed_frontier.proofs.Shadowing.{shadows_next, shadows_end}
use Rattle.lin_compressed_frontier.proofs.thinning.shadows.Goals as goal

pub loop-member-preserved : goal.loop-member-preserved
loop-member-preserved g c =
    let a = c.in-Some.ensures.lookup in
    let b = c.in_ok-shadow.ensures in
    let at = c.loop-member.at in
    shadows_next c.args.pending.now c.args.members.now at c.loop-member.out.items c.push_member.new.members.items c.in-Some.member.now c.in_ok-shadow.shadow
    (slice_get_read c.args.members.now (length c.args.members.now) at c.in-Some.member.now refl a.3.0 a.1) (b.node ∙ c.in-Ok.ensures.1) b.settled c.in_ok-push_member.ensures c.loop-member.invariant

pub returns-clause-complete : goal.returns-clause-complete
returns-clause-complete g c = shadows_end c.args.pending.now c.args.members.now c.loop-member.at c.loop-member.out.items c.in_default.ensures.lookup.3 c.loop-member.invariant
