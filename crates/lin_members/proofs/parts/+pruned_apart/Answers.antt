use Rattle.std.proofs.Common.{◌-◌}
use Rattle.lin_members.proofs.Parting.{pruned_joined, same_shows}
use Rattle.lin_members.proofs.parts.+pruned_apart.Goals as goal

pub returns : goal.returns
returns g n c = pruned_joined _ _ _ (same_shows g.O.State.Hash.hash_input _ c.args.pending.now (c.args.bits - 1)) c.args.members.items c.in_ok-ones.ones.items c.in_ok-ones.zeros.items c.in_ok-kept.kept.items c.in_ok-others.others.items c.in_ok-out.out.items c.in_ok-ones.ensures c.in_ok-kept.ensures c.in_ok-others.ensures c.in_ok-out.ensures
