-- Placing operations in configurations, and what a completion leaves of configurations: words of private contracts.
use Rattle.std.specs.Prelude.{◌≡◌, ◌≢◌, ◌⊎◌, ◌||◌, ℕ, not, nat_eq, nat_lt, cond, List, [], ◌∷◌, All, Contains, filter}
use Rattle.std.specs.Map.{keys_of}
use Rattle.lin_events.specs.declared.calls.Call.{Call}
use Rattle.lin_events.specs.declared.calls.Reply.{Reply}
use Rattle.lin_events.specs.declared.events.Body.{Body}
use Rattle.lin_events.specs.declared.events.Body.TheVariants.{Invoke, Ok, Fail, Info}
use Rattle.lin_order.specs.declared.placed.Placed.{Placed}
use Rattle.lin_frontier.specs.declared.pending.Open.{Open}

-- the pair at its place among pairs by rising process
abbrev pub insert_pair : ℕ → Reply → List (ℕ × Reply) → List (ℕ × Reply)
insert_pair process reply [] = (process, reply) ∷ []
insert_pair process reply (x ∷ xs) = cond (nat_lt x.0 process) (x ∷ insert_pair process reply xs) ((process, reply) ∷ x ∷ xs)

-- the pairs of all other processes
abbrev pub without : ℕ → List (ℕ × Reply) → List (ℕ × Reply)
without process placed = filter (λ p. not (nat_eq p.0 process)) placed

-- no operation of the process is placed
abbrev pub IsAbsent : ℕ → List (ℕ × Reply) → Type 0
IsAbsent process placed = All (λ p. p.0 ≢ process) placed

-- the operation, which has no place yet, is placed by a step of the object
pub record PlacesOne {S : Type 0} (step : S → Call → S → Reply → Type 0) (operation : Open) (c : S × List (ℕ × Reply)) (p : Placed) (d : S × List (ℕ × Reply)) : Type 0 where
  pub absent : IsAbsent operation.process c.1
  pub at : p.at ≡ operation.at
  pub steps : step c.0 operation.call d.0 p.reply
  pub placed : d.1 ≡ insert_pair operation.process p.reply c.1

-- the new operation is placed where it isn't yet, and behind it any that is pending
abbrev pub PlacesNext : {S : Type 0} → (S → Call → S → Reply → Type 0) → List Open → Open → S × List (ℕ × Reply) → Placed → S × List (ℕ × Reply) → Type 0
PlacesNext step pending new c p d = PlacesOne step new c p d
    ⊎ ((IsAbsent new.process c.1 → ⊥) × (o : Open) × Contains pending o × PlacesOne step o c p d)

-- the outcomes are those before and all that R leads to
pub record IsTried {C : Type 0} (R : Placed → C → Type 0) (old now : List (C × Placed)) : Type 0 where
  pub kept : (x : C × Placed) → Contains old x → Contains now x
  pub sound : (x : C × Placed) → Contains now x → Contains old x ⊎ R x.1 x.0
  pub complete : (p : Placed) (d : C) → R p d → Contains now (d, p)

-- what an event of the process leaves of a configuration, ahead of any placing: an ok those where the operation is placed with this
-- reply, without it; a fail those where it isn't placed; an invocation and an info all
abbrev pub IsKept : {S : Type 0} → ℕ → Body → S × List (ℕ × Reply) → S × List (ℕ × Reply) → Type 0
IsKept process (Invoke call) c d = d ≡ c
IsKept process (Ok name reply) c d = Contains c.1 (process, reply) × (d ≡ (c.0, without process c.1))
IsKept process (Fail name) c d = IsAbsent process c.1 × (d ≡ c)
IsKept process (Info name) c d = d ≡ c

-- the entries are what an event leaves of those before, with their nodes
pub record IsKeeping {S : Type 0} (process : ℕ) (body : Body) (old new : List ((S × List (ℕ × Reply)) × ℕ)) : Type 0 where
  pub sound : (e : (S × List (ℕ × Reply)) × ℕ) → Contains new e → (c : S × List (ℕ × Reply)) × Contains old (c, e.1) × IsKept process body c e.0
  pub complete : (c d : S × List (ℕ × Reply)) → Contains (keys_of old) c → IsKept process body c d → Contains (keys_of new) d

-- the operation, marked as crashed where it is of the process
abbrev pub marked : ℕ → Open → Open
marked process o = record o { crashed = o.crashed || nat_eq o.process process }
