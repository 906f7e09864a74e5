use Rattle.std.proofs.Common.{Contains, take}
use Rattle.lin_objects.specs.declared.states.State.{State}
use Rattle.lin_members.specs.declared.members.Path.{Path}
use Rattle.lin_members.specs.Members.{Member}
use Rattle.lin_possibilities.specs.inner.Gathering.{IsGathered}
use Rattle.lin_possibilities.proofs.possible.Possible.replies.Given as goal

abbrev pub invariant-loop-member : goal.invariant-loop-member
invariant-loop-member l = IsGathered (λ (m : Member State × Path). λ reply. Contains m.0.placed (l.process, reply)) (take l.member-index l.self.members.items) l.found.entries
