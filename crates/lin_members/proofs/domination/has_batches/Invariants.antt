use Rattle.std.proofs.Common.{◌≡◌, true, All, take}
use Rattle.lin_members.specs.Batches.{all_of}
use Rattle.lin_members.specs.Members.{IsOnOffer}
use Rattle.lin_frontier.specs.Placing.{IsAbsent}
use Rattle.lin_members.specs.Searching.{is_watching}
use Rattle.lin_members.proofs.domination.has_batches.Given as goal

abbrev pub invariant-loop-batch : goal.invariant-loop-batch
invariant-loop-batch g l = All (λ x. is_watching (g.O.SeqObject.observing l.object) l.pending x.1.0 ≡ true → IsAbsent x.1.0 l.member.0.placed → IsOnOffer l.member.0 x.1) (all_of (take l.batch-index l.batches))
