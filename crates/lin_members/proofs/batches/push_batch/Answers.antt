use Rattle.std.proofs.Common.{ap, ◌∙◌}
use Rattle.lin_members.specs.Batches.{all_of}
use Rattle.lin_members.proofs.Batching.{all_of_push}
use Rattle.lin_members.proofs.batches.push_batch.Goals as goal

pub returns : goal.returns
returns c = ap all_of c.in_ok-push.ensures.items ∙ all_of_push c.args.batches.now.items c.args.batch
