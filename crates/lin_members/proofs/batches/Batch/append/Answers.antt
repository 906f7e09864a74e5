use Rattle.std.proofs.Common.{arith}
use Rattle.std.proofs.lemmas.Grind.{common_steps}
use Rattle.lin_members.proofs.batches.Batch.append.Goals as goal

pub loop-offer-preserved : goal.loop-offer-preserved
loop-offer-preserved c = grind (arith, common_steps)

pub returns : goal.returns
returns c = grind (arith, common_steps)
