use Rattle.std.proofs.Common.{◌≡◌, take}
use Rattle.lin_objects.specs.declared.states.State.{State}
use Rattle.lin_members.specs.declared.members.Path.{Path}
use Rattle.lin_members.specs.Members.{Member}
use Rattle.lin_possibilities.specs.inner.Gathering.{IsGathered}
use Rattle.lin_possibilities.proofs.possible.Possible.states.Given as goal

abbrev pub invariant-loop-member : goal.invariant-loop-member
invariant-loop-member l = IsGathered (λ (m : Member State × Path). λ state. m.0.state ≡ state) (take l.member-index l.self.members.items) l.found.entries
