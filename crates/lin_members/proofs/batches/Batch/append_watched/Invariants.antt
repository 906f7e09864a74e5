use Rattle.std.proofs.Common.{◌≡◌, ◌++◌, take}
use Rattle.lin_members.specs.Searching.{watched}
use Rattle.lin_members.proofs.batches.Batch.append_watched.Given as goal

abbrev pub invariant-loop-offer : goal.invariant-loop-offer
invariant-loop-offer g l = l.self ≡ l.fn.self ++ watched (g.O.SeqObject.observing l.object) l.pending (take l.offer-index l.offers)
