use Rattle.std.proofs.Common.{vec_len}
use Rattle.lin_members.specs.Parts.{shows}
use Rattle.lin_members.proofs.Parting.{IsParting}
use Rattle.lin_members.proofs.parts.part_by_bit.Given as goal

abbrev pub invariant-loop-member : goal.invariant-loop-member
invariant-loop-member g l = IsParting (shows g.S.Hash.hash_input l.pending l.bit) l.fn.members.items l.rest.items l.ones.items l.zeros.items

abbrev pub decreases-loop-member : goal.decreases-loop-member
decreases-loop-member g l = vec_len l.rest
