use Rattle.std.proofs.Common.{All, take}
use Rattle.lin_members.specs.Searching.{IsAboveIn}
use Rattle.lin_members.proofs.domination.is_one_above.Given as goal

abbrev pub invariant-loop-member : goal.invariant-loop-member
invariant-loop-member g l = All (λ m. IsAboveIn (g.O.SeqObject.observing l.object) l.pending m l.other → ⊥) (take l.member-index l.members)
