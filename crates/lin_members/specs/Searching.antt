-- Searching the ways of members for a reply: words of private contracts. The operations are those that are open beside the one that completes.
use Rattle.std.specs.Prelude.{◌≡◌, ◌≢◌, ◌⊎◌, ◌&&◌, ℕ, suc, ◌+◌, ◌≤◌, Bool, true, false, not, nat_eq, List, [], ◌∷◌, ◌++◌, All, AllPairs, Contains, IsTrue, Option, Some, None, slice_get, filter, count_by}
use Rattle.std.specs.List.{list_any}
use Rattle.lin_events.specs.declared.calls.Call.{Call}
use Rattle.lin_events.specs.declared.calls.Name.{Name}
use Rattle.lin_events.specs.declared.calls.Reply.{Reply}
use Rattle.lin_events.specs.declared.events.Body.{Body}
use Rattle.lin_events.specs.declared.events.Body.TheVariants.{Invoke, Ok, Fail, Info}
use Rattle.lin_events.specs.declared.events.Event.{Event}
use Rattle.lin_objects.specs.Ahead.{IsAhead}
use Rattle.lin_order.specs.declared.placed.Placed.{Placed}
use Rattle.lin_members.specs.declared.members.Path.{Path}
use Rattle.lin_frontier.specs.declared.pending.Open.{Open}
use Rattle.lin_members.specs.Members.{Member, IsOnOffer}
use Rattle.lin_frontier.specs.Placing.{IsAbsent, PlacesOne, insert_pair, without}
use Rattle.lin_members.specs.Rounds.{begin_round, place}
use Rattle.lin_frontier.specs.Masks.{is_crashed}

-- an operation of the process observes
abbrev pub is_observing : (Call → Bool) → List Open → ℕ → Bool
is_observing observes pending process = list_any (λ o. nat_eq o.process process && observes o.call) pending

-- the process waits for the reply of an operation that observes, and has not crashed
abbrev pub is_watching : (Call → Bool) → List Open → ℕ → Bool
is_watching observes pending process = is_observing observes pending process && not (is_crashed pending process)

-- the offers to processes that watch
abbrev pub watched : (Call → Bool) → List Open → List (ℕ × (ℕ × Reply)) → List (ℕ × (ℕ × Reply))
watched observes pending offers = filter (λ x. is_watching observes pending x.1.0) offers

-- offers were added, all in the one round, and all that R holds of is on offer now
pub record IsOffering (R : ℕ × Reply → Type 0) (round : ℕ) (old now : List (ℕ × (ℕ × Reply))) : Type 0 where
  pub kept : (x : ℕ × (ℕ × Reply)) → Contains old x → Contains now x
  pub sound : (x : ℕ × (ℕ × Reply)) → Contains now x → Contains old x ⊎ ((x.0 ≡ round) × R x.1)
  pub complete : (x : ℕ × Reply) → R x → (k : ℕ) × Contains now (k, x)

-- the state gives the reply to the operation
abbrev pub Gives : {S : Type 0} → (S → Call → S → Reply → Type 0) → S → Open → ℕ × Reply → Type 0
Gives {S} step state operation x = (x.0 ≡ operation.process) × (next : S) × step state operation.call next x.1

-- the configuration's state gives the reply to the operation, which observes, and whose process watches and has no place in it
abbrev pub GivesOne : {S : Type 0} → (S → Call → S → Reply → Type 0) → (Call → Bool) → List Open → S × List (ℕ × Reply) → Open → ℕ × Reply → Type 0
GivesOne step observes pending c o x = (observes o.call ≡ true) × (is_watching observes pending o.process ≡ true) × IsAbsent o.process c.1 × Gives step c.0 o x

-- it does so to one of the operations
abbrev pub GivesAny : {S : Type 0} → (S → Call → S → Reply → Type 0) → (Call → Bool) → List Open → S × List (ℕ × Reply) → ℕ × Reply → Type 0
GivesAny step observes pending c x = (o : Open) × Contains pending o × GivesOne step observes pending c o x

-- the operation, which isn't treated as an observer, is placed
abbrev pub PlacesIfUpdate : {S : Type 0} → (S → Call → S → Reply → Type 0) → (Call → Bool) → Open → S × List (ℕ × Reply) → Placed → S × List (ℕ × Reply) → Type 0
PlacesIfUpdate step observes o c p d = (observes o.call ≡ false) × PlacesOne step o c p d

-- one of the operations is
abbrev pub PlacesUpdate : {S : Type 0} → (S → Call → S → Reply → Type 0) → (Call → Bool) → List Open → S × List (ℕ × Reply) → Placed → S × List (ℕ × Reply) → Type 0
PlacesUpdate step observes pending c p d = (o : Open) × Contains pending o × PlacesIfUpdate step observes o c p d

-- the one operation is the other, or both crashed and have the same call
abbrev pub StandsFor : Open → Open → Type 0
StandsFor t o = (t ≡ o) ⊎ (IsTrue t.crashed × IsTrue o.crashed × (t.call ≡ o.call))

-- placed in the configuration with the reply, where this state follows, was an operation that stands for this one, and has no place yet
pub record IsPlacedLike {S : Type 0} (pending : List Open) (c : S × List (ℕ × Reply)) (o : Open) (reply : Reply) (state : S) (outcomes : List ((S × List (ℕ × Reply)) × Placed)) : Type 0 where
  pub placed : Open
  pub among : Contains pending placed
  pub stands : StandsFor placed o
  pub absent : IsAbsent placed.process c.1
  pub has : Contains outcomes ((state, insert_pair placed.process reply c.1), record { at = placed.at; reply = reply })

-- what placing one open update makes of the configuration; of crashed ones that have the same call one is enough
pub record AreUpdates {S : Type 0} (step : S → Call → S → Reply → Type 0) (observes : Call → Bool) (pending : List Open) (c : S × List (ℕ × Reply)) (outcomes : List ((S × List (ℕ × Reply)) × Placed)) : Type 0 where
  pub sound : (d : S × List (ℕ × Reply)) (p : Placed) → Contains outcomes (d, p) → PlacesUpdate step observes pending c p d
  pub complete : (o : Open) (p : Placed) (d : S × List (ℕ × Reply)) → Contains pending o → PlacesIfUpdate step observes o c p d → IsPlacedLike pending c o p.reply d.0 outcomes

-- the configuration has the other's state, and no more placed but what crashed
pub record CoversIn {S : Type 0} (pending : List Open) (c d : S × List (ℕ × Reply)) : Type 0 where
  pub same : c.0 ≡ d.0
  pub part : All (λ x. Contains d.1 x) c.1
  pub rest : All (λ x. Contains c.1 x ⊎ (is_crashed pending x.0 ≡ true)) d.1

-- the member has this state, no more placed but what crashed, and on offer all of these that somebody waits for
pub record DominatesIn {S : Type 0} (observes : Call → Bool) (pending : List Open) (m : Member S) (state : S) (placed : List (ℕ × Reply)) (offers : List (ℕ × (ℕ × Reply))) : Type 0 where
  pub same : m.state ≡ state
  pub part : All (λ x. Contains placed x) m.placed
  pub rest : All (λ x. Contains m.placed x ⊎ (is_crashed pending x.0 ≡ true)) placed
  pub offered : All (λ x. is_watching observes pending x.1.0 ≡ true → IsAbsent x.1.0 m.placed → IsOnOffer m x.1) offers

-- the node has this parent and this element
abbrev pub IsNodeOf : {A : Type 0} → List (ℕ × A) → ℕ → ℕ → A → Type 0
IsNodeOf nodes id parent a = (k : ℕ) × (id ≡ suc k) × (slice_get nodes k ≡ Some (parent, a))

-- exactly what the function makes of those elements of which P holds
pub record IsMade {A B : Type 0} (P : A → Type 0) (make : A → B) (xs : List A) (ys : List B) : Type 0 where
  pub sound : (y : B) → Contains ys y → (x : A) × Contains xs x × P x × (y ≡ make x)
  pub complete : (x : A) → Contains xs x → P x → Contains ys (make x)

-- the one member dominates the other, and allows overwritten updates that were called as late
abbrev pub IsAboveIn : {S : Type 0} → (Call → Bool) → List Open → Member S × Path → Member S × Path → Type 0
IsAboveIn observes pending m n = DominatesIn observes pending m.0 n.0.state n.0.placed n.0.offers × (n.1.until ≤ m.1.until)

-- of the members those that no other one is above, or is above as well
pub record IsPruned {S : Type 0} (observes : Call → Bool) (pending : List Open) (members kept : List (Member S × Path)) : Type 0 where
  pub from : (m : Member S × Path) → Contains kept m → Contains members m
  pub covered : (m : Member S × Path) → Contains members m → (n : Member S × Path) × Contains kept n × IsAboveIn observes pending n m
  pub apart : AllPairs (λ m n. (IsAboveIn observes pending m n → ⊥) × (IsAboveIn observes pending n m → ⊥)) kept

-- the rounds with each of the entries, first to last, placed in its round, or behind all where it names none
abbrev pub in_rounds : List (List Placed) → List (Placed × Option ℕ) → List (List Placed)
in_rounds rounds [] = rounds
in_rounds rounds ((p, None) ∷ entries) = in_rounds (begin_round p rounds) entries
in_rounds rounds ((p, Some round) ∷ entries) = in_rounds (place round p rounds) entries

-- the second member has on offer nothing but what the first has to processes that watch, and what the state of the first gives in its last round
abbrev pub IsFromBehind : {S : Type 0} → (S → Call → S → Reply → Type 0) → (Call → Bool) → List Open → Member S × Path → Member S → Type 0
IsFromBehind step observes pending m n = (x : ℕ × (ℕ × Reply)) → Contains n.offers x
    → (Contains m.0.offers x × (is_watching observes pending x.1.0 ≡ true)) ⊎ ((x.0 ≡ m.1.round) × GivesAny step observes pending (m.0.state, m.0.placed) x.1)

-- the path goes on by a round that begins with the operation
pub record BeginsRound (nodes : List (ℕ × (Placed × Option ℕ))) (path next : Path) (p : Placed) : Type 0 where
  pub round : next.round ≡ path.round + 1
  pub node : IsNodeOf nodes next.node path.node (p, None)

-- an update leads from the one member to the other, whose path goes on by a round
pub record IsSuccessor {S : Type 0} (step : S → Call → S → Reply → Type 0) (observes : Call → Bool) (pending : List Open) (nodes : List (ℕ × (Placed × Option ℕ))) (m n : Member S × Path) : Type 0 where
  pub p : Placed
  pub places : PlacesUpdate step observes pending (m.0.state, m.0.placed) p (n.0.state, n.0.placed)
  pub offers : IsFromBehind step observes pending m n.0
  pub begins : BeginsRound nodes m.1 n.1 p

-- updates, one after the other, lead from one of the members to this one
pub data IsReached {S : Type 0} (step : S → Call → S → Reply → Type 0) (observes : Call → Bool) (pending : List Open) (nodes : List (ℕ × (Placed × Option ℕ))) (starts : List (Member S × Path)) : Member S × Path → Type 0 where
  start : {m : Member S × Path} → Contains starts m → IsReached step observes pending nodes starts m
  next : {m n : Member S × Path} → IsReached step observes pending nodes starts m → IsSuccessor step observes pending nodes m n → IsReached step observes pending nodes starts n

-- in the round the operation was offered the reply, or, in the last one, the state gives it
abbrev pub CanTake : {S : Type 0} → (S → Call → S → Reply → Type 0) → Open → Reply → Member S × Path → ℕ → Type 0
CanTake step operation reply m round = Contains m.0.offers (round, (operation.process, reply)) ⊎ ((round ≡ m.1.round) × Gives step m.0.state operation (operation.process, reply))

-- the observer takes the reply: the member is the same after it, without what nobody waits for
pub record IsAnswered {S : Type 0} (step : S → Call → S → Reply → Type 0) (observes : Call → Bool) (operation : Open) (reply : Reply) (pending : List Open) (nodes : List (ℕ × (Placed × Option ℕ))) (m n : Member S × Path) : Type 0 where
  pub observer : observes operation.call ≡ true
  pub round : ℕ
  pub takes : CanTake step operation reply m round
  pub same : n.0 ≡ record { state = m.0.state; placed = m.0.placed; offers = watched observes pending m.0.offers }
  pub last : n.1.round ≡ m.1.round
  pub node : IsNodeOf nodes n.1.node m.1.node (record { at = operation.at; reply = reply }, Some round)

-- the update returns with the reply: it leads to the state, and begins a round
pub record IsReturned {S : Type 0} (step : S → Call → S → Reply → Type 0) (observes : Call → Bool) (operation : Open) (reply : Reply) (pending : List Open) (nodes : List (ℕ × (Placed × Option ℕ))) (m n : Member S × Path) : Type 0 where
  pub update : observes operation.call ≡ false
  pub steps : step m.0.state operation.call n.0.state reply
  pub placed : n.0.placed ≡ m.0.placed
  pub offers : IsFromBehind step observes pending m n.0
  pub begins : BeginsRound nodes m.1 n.1 (record { at = operation.at; reply = reply })

-- the operation completes with the reply
abbrev pub IsCompleted : {S : Type 0} → (S → Call → S → Reply → Type 0) → (Call → Bool) → Open → Reply → List Open → List (ℕ × (Placed × Option ℕ)) → Member S × Path → Member S × Path → Type 0
IsCompleted step observes operation reply pending nodes m n = IsAnswered step observes operation reply pending nodes m n ⊎ IsReturned step observes operation reply pending nodes m n

-- what an observer's reply makes of the member is among those that were found
abbrev pub IsDone : {S : Type 0} → (Call → Bool) → Open → List Open → List (Member S × Path) → Member S → Type 0
IsDone {S} observes operation pending out m = (observes operation.call ≡ true)
    × (n : Member S × Path) × Contains out n × (n.0 ≡ record { state = m.state; placed = m.placed; offers = watched observes pending m.offers })

-- the member dominates the state with these placed, come by from another member: it has on offer what is behind that
pub record DominatesOver {S : Type 0} (step : S → Call → S → Reply → Type 0) (observes : Call → Bool) (pending : List Open) (m n : Member S) (d : S × List (ℕ × Reply)) : Type 0 where
  pub same : n.state ≡ d.0
  pub part : All (λ x. Contains d.1 x) n.placed
  pub rest : All (λ x. Contains n.placed x ⊎ (is_crashed pending x.0 ≡ true)) d.1
  pub offered : (x : ℕ × Reply) → is_watching observes pending x.0 ≡ true → IsAbsent x.0 n.placed → IsOnOffer m x ⊎ GivesAny step observes pending (m.state, m.placed) x → IsOnOffer n x

-- an observer can't take the reply there; and what an update that returns makes of the member is dominated by one of those that were found
pub record IsPassed {S : Type 0} (step : S → Call → S → Reply → Type 0) (observes : Call → Bool) (operation : Open) (reply : Reply) (pending : List Open) (out : List (Member S × Path)) (m : Member S × Path) : Type 0 where
  pub never : observes operation.call ≡ true → (round : ℕ) → CanTake step operation reply m round → ⊥
  pub returns : observes operation.call ≡ false → (next : S) → step m.0.state operation.call next reply
      → (n : Member S × Path) × Contains out n × DominatesOver step observes pending m.0 n.0 (next, m.0.placed)

-- what placing the update with the reply makes of the member, where this state follows, is dominated by one of those visited; or what placing
-- one makes of it that stands for the update
pub record IsSearchedFor {S : Type 0} (step : S → Call → S → Reply → Type 0) (observes : Call → Bool) (pending : List Open) (visited : List (Member S × Path)) (m : Member S) (o : Open) (reply : Reply) (state : S) : Type 0 where
  pub placed : Open
  pub among : Contains pending placed
  pub stands : StandsFor placed o
  pub absent : IsAbsent placed.process m.placed
  pub member : Member S × Path
  pub there : Contains visited member
  pub dominates : DominatesOver step observes pending m member.0 (state, insert_pair placed.process reply m.placed)

-- each update is searched for
abbrev pub IsSearchedIn : {S : Type 0} → (S → Call → S → Reply → Type 0) → (Call → Bool) → List Open → List (Member S × Path) → Member S → Type 0
IsSearchedIn {S} step observes pending visited m = (o : Open) (p : Placed) (d : S × List (ℕ × Reply)) → Contains pending o → PlacesIfUpdate step observes o (m.state, m.placed) p d
    → IsSearchedFor step observes pending visited m o p.reply d.0

-- so many of the operations hinder this one, an update, with the reply, and none observes
pub record AreHindering (observes : Call → Bool) (hinders : Call → Reply → Call → Bool) (operation : Open) (reply : Reply) (pending : List Open) (many : ℕ) : Type 0 where
  pub update : observes operation.call ≡ false
  pub quiet : All (λ o. observes o.call ≡ false) pending
  pub counted : many ≡ count_by (λ o. hinders operation.call reply o.call) pending

-- from the state the operation, an update, goes ahead of all that are open beside it, and none of them observes
pub record GoesAhead {S : Type 0} (step : S → Call → S → Reply → Type 0) (observes : Call → Bool) (operation : Open) (reply : Reply) (pending : List Open) (state : S) : Type 0 where
  pub update : observes operation.call ≡ false
  pub quiet : All (λ o. observes o.call ≡ false) pending
  pub hinders : Call → Bool
  pub ahead : IsAhead step hinders state operation.call reply (count_by (λ o. hinders o.call) pending)

-- the member is done with: an observer's reply was found for it, or the operation goes ahead of all others there
abbrev pub IsSettled : {S : Type 0} → (S → Call → S → Reply → Type 0) → (Call → Bool) → Open → Reply → List Open → List (Member S × Path) → Member S × Path → Type 0
IsSettled step observes operation reply pending out m =
    IsDone observes operation pending out m.0 ⊎ (GoesAhead step observes operation reply pending m.0.state × IsPassed step observes operation reply pending out m)

-- what is found for the reply of the operation, from these members on. Those that aren't settled are searched
pub record IsFoundFrom {S : Type 0} (step : S → Call → S → Reply → Type 0) (observes : Call → Bool) (operation : Open) (reply : Reply) (pending : List Open) (nodes : List (ℕ × (Placed × Option ℕ))) (starts out : List (Member S × Path)) : Type 0 where
  pub visited : List (Member S × Path)
  pub begins : (m : Member S × Path) → Contains starts m → Contains visited m
  pub reached : (m : Member S × Path) → Contains visited m → IsReached step observes pending nodes starts m
  pub each : (m : Member S × Path) → Contains visited m → IsSettled step observes operation reply pending out m ⊎ (IsPassed step observes operation reply pending out m × IsSearchedIn step observes pending visited m.0)
  pub sound : (n : Member S × Path) → Contains out n → (m : Member S × Path) × IsReached step observes pending nodes starts m × IsCompleted step observes operation reply pending nodes m n

-- the visited members with those that no visited one dominates, each with a round more
pub record IsVisiting {S : Type 0} (observes : Call → Bool) (pending : List Open) (next : List ((S × List (ℕ × Reply)) × Placed)) (offers : List (ℕ × (ℕ × Reply))) (path : Path) (nodes : List (ℕ × (Placed × Option ℕ))) (old now : List (Member S × Path)) : Type 0 where
  pub added : List (Member S × Path)
  pub grown : now ≡ old ++ added
  pub new : All (λ n. (p : Placed) × Contains next ((n.0.state, n.0.placed), p) × (n.0.offers ≡ offers) × BeginsRound nodes path n.1 p) added
  pub taken : (c : S × List (ℕ × Reply)) (p : Placed) → Contains next (c, p) → (n : Member S × Path) × Contains now n × DominatesIn observes pending n.0 c.0 c.1 offers

-- to those found were added only what the completion makes of the member
pub record IsFinding {S : Type 0} (step : S → Call → S → Reply → Type 0) (observes : Call → Bool) (operation : Open) (reply : Reply) (pending : List Open) (nodes : List (ℕ × (Placed × Option ℕ))) (m : Member S × Path) (old now : List (Member S × Path)) : Type 0 where
  pub kept : (n : Member S × Path) → Contains old n → Contains now n
  pub sound : (n : Member S × Path) → Contains now n → Contains old n ⊎ IsCompleted step observes operation reply pending nodes m n

-- what is on offer behind the member
abbrev pub AreBehind : {S : Type 0} → (S → Call → S → Reply → Type 0) → (Call → Bool) → List Open → Member S × Path → List (ℕ × (ℕ × Reply)) → Type 0
AreBehind step observes pending m offers = IsOffering (GivesAny step observes pending (m.0.state, m.0.placed)) m.1.round (watched observes pending m.0.offers) offers

-- the member with what is on offer to processes that watch
abbrev pub copy_of : {S : Type 0} → (Call → Bool) → List Open → Member S × Path → Member S × Path
copy_of observes pending m = (record { state = m.0.state; placed = m.0.placed; offers = watched observes pending m.0.offers }, m.1)

-- the same without the operation of the process
abbrev pub rest_of : {S : Type 0} → (Call → Bool) → List Open → ℕ → Member S × Path → Member S × Path
rest_of observes pending process m = (record { state = m.0.state; placed = without process m.0.placed; offers = watched observes pending m.0.offers }, m.1)

-- the value was put last, just where P holds
abbrev pub IsMadeOne : {B : Type 0} → Type 0 → B → List B → List B → Type 0
IsMadeOne P y old now = (P × (now ≡ old ++ y ∷ [])) ⊎ ((P → ⊥) × (now ≡ old))

-- what an ok makes of members: those that placed the operation with the reply, without it, and what is found for the reply from the others
pub record IsReturnOf {S : Type 0} (step : S → Call → S → Reply → Type 0) (observes : Call → Bool) (operation : Open) (reply : Reply) (pending : List Open) (nodes : List (ℕ × (Placed × Option ℕ))) (members out : List (Member S × Path)) : Type 0 where
  pub starts : List (Member S × Path)
  pub begun : IsMade (λ m. IsAbsent operation.process m.0.placed) (λ m. m) members starts
  pub found : List (Member S × Path)
  pub searched : IsFoundFrom step observes operation reply pending nodes starts found
  pub made : List (Member S × Path)
  pub taken : IsMade (λ m. Contains m.0.placed (operation.process, reply)) (rest_of observes pending operation.process) members made
  pub both : out ≡ found ++ made

-- what an event of the process makes of members
abbrev pub IsNextOf : {S : Type 0} → (S → Call → S → Reply → Type 0) → (Call → Bool) → ℕ → Body → List Open → List Open → List (ℕ × (Placed × Option ℕ)) → List (Member S × Path) → List (Member S × Path) → Type 0
IsNextOf step observes process (Invoke call) before pending nodes members out = IsMade (λ m. Unit {0}) (copy_of observes pending) members out
IsNextOf step observes process (Info name) before pending nodes members out = IsMade (λ m. Unit {0}) (copy_of observes pending) members out
IsNextOf step observes process (Fail name) before pending nodes members out = IsMade (λ m. IsAbsent process m.0.placed) (copy_of observes pending) members out
IsNextOf step observes process (Ok name reply) before pending nodes members out = (o : Open) × Contains before o × (o.process ≡ process) × IsReturnOf step observes o reply pending nodes members out

-- an ok is of an operation that is open before
abbrev pub CompletesOpen : Event → List Open → Type 0
CompletesOpen event before = (name : Name) (reply : Reply) → event.body ≡ Ok name reply → All (λ o. o.process ≢ event.process) before → ⊥
