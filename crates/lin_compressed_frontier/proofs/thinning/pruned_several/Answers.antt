use Rattle.std.proofs.Common.{arith}
use Rattle.lin_compressed_frontier.proofs.Single.{pruned_single}
use Rattle.lin_compressed_frontier.proofs.thinning.pruned_several.Goals as goal

pub returns-then-len-le1 : goal.returns-then-len-le1
returns-then-len-le1 g c = pruned_single _ _ c.args.members.items (omega (arith, c.if-len-le1.true, c.len.ensures, c.args.members.ok.0))
