use Rattle.lin_compressed_frontier.proofs.Making.{behind_none, behind_more, behind_all}
use Rattle.lin_compressed_frontier.proofs.compressed.push_all_taken_out.Goals as goal

pub loop-member-init : goal.loop-member-init
loop-member-init g c = behind_none _ _ c.args.out.now.items

pub loop-member-preserved : goal.loop-member-preserved
loop-member-preserved g c = behind_more _ _ c.args.out.now.items c.args.members.now c.loop-member.member-index c.member-item.result c.loop-member.out.items c.push_taken_out.new.out.items c.loop-member-test.true c.member-item.is c.in_ok-push_taken_out.ensures c.loop-member.invariant

pub returns : goal.returns
returns g c = behind_all _ _ c.args.out.now.items c.args.members.now c.loop-member.member-index c.loop-member.out.items c.loop-member-test.false c.loop-member.invariant
