-- A member put last where none that stands there dominates it: words of private contracts.
use Rattle.std.specs.Prelude.{◌≡◌, ◌⊎◌, ℕ, Bool, List, [], ◌∷◌, ◌++◌, Contains, Option}
use Rattle.lin_events.specs.declared.calls.Call.{Call}
use Rattle.lin_events.specs.declared.calls.Reply.{Reply}
use Rattle.lin_frontier.specs.declared.pending.Open.{Open}
use Rattle.lin_members.specs.Members.{Member}
use Rattle.lin_members.specs.Searching.{BeginsRound, DominatesIn}
use Rattle.lin_members.specs.declared.members.Path.{Path}
use Rattle.lin_order.specs.declared.placed.Placed.{Placed}

-- a member was put last, of this configuration and these offers, whose path goes on from this one by a round that begins with the operation
pub record IsPutNext {S : Type 0} (c : S × List (ℕ × Reply)) (p : Placed) (offers : List (ℕ × (ℕ × Reply))) (path : Path) (nodes : List (ℕ × (Placed × Option ℕ))) (old now : List (Member S × Path)) : Type 0 where
  pub member : Member S × Path
  pub pushed : now ≡ old ++ member ∷ []
  pub same : member.0 ≡ record { state = c.0; placed = c.1; offers = offers }
  pub begins : BeginsRound nodes path member.1 p

-- it was put last, or nothing was, and one that stood there dominates it
abbrev pub IsTakenIn : {S : Type 0} → (Call → Bool) → List Open → S × List (ℕ × Reply) → Placed → List (ℕ × (ℕ × Reply)) → Path → List (ℕ × (Placed × Option ℕ)) → List (Member S × Path) → List (Member S × Path) → Type 0
IsTakenIn {S} observes pending c p offers path nodes old now =
    ((n : Member S × Path) × Contains old n × DominatesIn observes pending n.0 c.0 c.1 offers × (now ≡ old)) ⊎ IsPutNext c p offers path nodes old now

-- the same where P holds, and nothing was put elsewhere
abbrev pub IsTakenInIf : {S : Type 0} → Type 0 → (Call → Bool) → List Open → S × List (ℕ × Reply) → Placed → List (ℕ × (ℕ × Reply)) → Path → List (ℕ × (Placed × Option ℕ)) → List (Member S × Path) → List (Member S × Path) → Type 0
IsTakenInIf P observes pending c p offers path nodes old now = ((P → ⊥) × (now ≡ old)) ⊎ (P × IsTakenIn observes pending c p offers path nodes old now)
