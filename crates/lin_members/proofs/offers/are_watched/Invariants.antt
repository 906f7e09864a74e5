use Rattle.std.proofs.Common.{◌≡◌, take}
use Rattle.lin_members.specs.Searching.{watched}
use Rattle.lin_members.proofs.offers.are_watched.Given as goal

abbrev pub invariant-loop-offer : goal.invariant-loop-offer
invariant-loop-offer g l = watched (g.O.SeqObject.observing l.object) l.pending (take l.offer-index l.offers) ≡ take l.offer-index l.offers
