use Rattle.lin_compressed_frontier.proofs.Making.{made_none, made_more, made_all, made_one}
use Rattle.lin_compressed_frontier.proofs.compressed.all_copied.Goals as goal

pub loop-member-init : goal.loop-member-init
loop-member-init g c = made_none _ _ c.in_ok-out.out.items c.in_ok-out.ensures.items

pub loop-member-preserved : goal.loop-member-preserved
loop-member-preserved g c = made_more _ _ c.args.members.now c.loop-member.member-index c.member-item.result c.loop-member.out.items c.push_member.new.members.items c.loop-member-test.true c.member-item.is
    (made_one _ _ c.in_ok-copied.field-0 c.loop-member.out.items c.push_member.new.members.items tt c.in_ok-copied.ensures c.in_ok-push_member.ensures) c.loop-member.invariant

pub returns : goal.returns
returns g c = made_all _ _ c.args.members.now c.loop-member.member-index c.loop-member.out.items c.loop-member-test.false c.loop-member.invariant
