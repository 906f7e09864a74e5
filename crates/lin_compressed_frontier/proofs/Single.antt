-- One member alone, which isn't compared.
use Rattle.std.proofs.Common.{◌≤◌, Bool, List, length, inl, arith}
use Rattle.lin_events.specs.declared.calls.Call.{Call}
use Rattle.lin_members.specs.declared.members.Path.{Path}
use Rattle.lin_frontier.specs.declared.pending.Open.{Open}
use Rattle.lin_members.specs.Members.{Member}
use Rattle.lin_members.specs.Searching.{IsPruned}
use Rattle.lin_members.specs.lemmas.Undominated.{above_itself_in}

pub pruned_single : {S : Type 0} (observes : Call → Bool) (pending : List Open) (members : List (Member S × Path)) → length members ≤ 1 → IsPruned observes pending members members
pruned_single observes pending members one = record {
  from = λ m there. there;
  covered = λ m there. (m, there, above_itself_in observes pending m);
  apart = λ i j d below inside. absurd (omega (arith, one));
}
