use Rattle.std.proofs.Common.{◌≡◌, ◌++◌, take}
use Rattle.lin_members.proofs.batches.Batch.append.Given as goal

abbrev pub invariant-loop-offer : goal.invariant-loop-offer
invariant-loop-offer l = l.self ≡ l.fn.self ++ take l.offer-index l.offers
