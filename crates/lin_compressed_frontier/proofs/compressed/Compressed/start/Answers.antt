use Rattle.lin_compressed_frontier.proofs.Compressing.{first_compressed}
use Rattle.lin_compressed_frontier.proofs.compressed.Compressed.start.Goals as goal

pub returns-clause-exact : goal.returns-clause-exact
returns-clause-exact g c =
    first_compressed _ _ _ (g.O.SeqObject.overwriting c.args.object.now) c.args.nodes.now c.push_member.new.members.items c.in_ok-members.members.items c.start-2.result c.start.result c.in_ok-push_member.ensures c.in_ok-members.ensures.items c.start-2.ensures c.start.ensures
    c.start_is_complete.ensures c.overwritten_can_go.ensures.alone c.rounds_spell_members.ensures.start
