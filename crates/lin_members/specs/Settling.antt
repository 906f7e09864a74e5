-- Members of which crashed operations were exchanged, and what is kept of members that are alike: words of private contracts.
use Rattle.std.specs.Prelude.{◌≡◌, ◌⊎◌, ℕ, Bool, cond, nat_eq, List, map, Contains, IsTrue, Some, slice_get}
use Rattle.lin_events.specs.declared.calls.Call.{Call}
use Rattle.lin_events.specs.declared.calls.Reply.{Reply}
use Rattle.lin_members.specs.declared.members.Path.{Path}
use Rattle.lin_frontier.specs.declared.pending.Open.{Open}
use Rattle.lin_members.specs.Members.{Member}
use Rattle.lin_frontier.specs.Placing.{IsAbsent}
use Rattle.lin_members.specs.Searching.{DominatesIn, IsPruned}

-- the pair with the other process in place of this one
abbrev pub renamed_pair : ℕ → ℕ → ℕ × Reply → ℕ × Reply
renamed_pair process other x = (cond (nat_eq x.0 process) other x.0, x.1)

-- crashed operations were put, one after the other, in the place of crashed ones that have the same call and weren't placed
pub data IsRenamed (pending : List Open) (placed : List (ℕ × Reply)) : List (ℕ × Reply) → Type 0 where
  same : IsRenamed pending placed placed
  more : {now : List (ℕ × Reply)} {o t : Open} → IsRenamed pending placed now → Contains pending o → Contains pending t → IsTrue o.crashed → IsTrue t.crashed → t.call ≡ o.call → IsAbsent t.process now
      → IsRenamed pending placed (map (renamed_pair o.process t.process) now)

-- the second member is the first, but for that
pub record IsSettled {S : Type 0} (pending : List Open) (m k : Member S) : Type 0 where
  pub state : k.state ≡ m.state
  pub placed : IsRenamed pending m.placed k.placed
  pub offers : k.offers ≡ m.offers

-- of both, so changed, the first dominates the second
pub record DominatesAlike {S : Type 0} (observes : Call → Bool) (pending : List Open) (n m : Member S) : Type 0 where
  pub own : Member S
  pub other : Member S
  pub own_settled : IsSettled pending n own
  pub other_settled : IsSettled pending m other
  pub dominates : DominatesIn observes pending own other.state other.placed other.offers

-- the member is one of these, so changed, and its node tells which
pub record IsShadow {S : Type 0} (pending : List Open) (members : List (Member S × Path)) (x : Member S × Path) : Type 0 where
  pub member : Member S × Path
  pub stands : slice_get members x.1.node ≡ Some member
  pub settled : IsSettled pending member.0 x.0

-- of the members some, which dominate all others so
pub record AreFewer {S : Type 0} (observes : Call → Bool) (pending : List Open) (members fewer : List (Member S × Path)) : Type 0 where
  pub from : (m : Member S × Path) → Contains fewer m → Contains members m
  pub covered : (m : Member S × Path) → Contains members m → (n : Member S × Path) × Contains fewer n × DominatesAlike observes pending n.0 m.0

-- of the members those that no other one dominates, or dominates as well; and of these again, once some went that others dominate so
abbrev pub IsThinned : {S : Type 0} → (Call → Bool) → List Open → List (Member S × Path) → List (Member S × Path) → Type 0
IsThinned {S} observes pending members out = IsPruned observes pending members out
    ⊎ ((first : List (Member S × Path)) × (fewer : List (Member S × Path)) × IsPruned observes pending members first × AreFewer observes pending first fewer × IsPruned observes pending fewer out)
