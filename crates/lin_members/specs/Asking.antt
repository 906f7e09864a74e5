-- What a completion makes of members where the object is overwritten: words of private contracts. The operations are those that are open beside the
-- one that completes, and the event that completes it stands at the position `now`.
use Rattle.std.specs.Prelude.{◌≡◌, ◌⊎◌, ℕ, ◌+◌, ◌<◌, nat_lt, Bool, true, false, List, Contains, Option, Some, filter}
use Rattle.lin_events.specs.declared.calls.Call.{Call}
use Rattle.lin_events.specs.declared.events.Body.{Body}
use Rattle.lin_events.specs.declared.events.Body.TheVariants.{Invoke, Ok, Fail, Info}
use Rattle.lin_events.specs.declared.calls.Reply.{Reply}
use Rattle.lin_order.specs.declared.placed.Placed.{Placed}
use Rattle.lin_members.specs.declared.members.Path.{Path}
use Rattle.lin_frontier.specs.declared.pending.Open.{Open}
use Rattle.lin_members.specs.Members.{Member}
use Rattle.lin_frontier.specs.Placing.{IsAbsent, insert_pair}
use Rattle.lin_members.specs.Searching.{copy_of, rest_of, watched, AreBehind, BeginsRound, CanTake, GivesAny, IsAnswered, IsMade, IsNodeOf, IsOffering, PlacesIfUpdate, PlacesUpdate, StandsFor}

-- the operations that were called before the event at the position
abbrev pub early_of : ℕ → List Open → List Open
early_of until pending = filter (λ o. nat_lt o.at until) pending

-- the path goes on by a round ahead of its last one
pub record IsAheadOf (nodes : List (ℕ × (Placed × Option ℕ))) (path next : Path) (p : Placed) : Type 0 where
  pub round : next.round ≡ path.round + 1
  pub node : IsNodeOf nodes next.node path.node (p, Some (path.round + 1))
  pub until : next.until ≡ path.until

-- the path goes on by the operation, put into the round
pub record IsPutIn (nodes : List (ℕ × (Placed × Option ℕ))) (path next : Path) (p : Placed) (round : ℕ) : Type 0 where
  pub last : next.round ≡ path.round
  pub node : IsNodeOf nodes next.node path.node (p, Some round)
  pub until : next.until ≡ path.until

module _ {S : Type 0} (step : S → Call → S → Reply → Type 0) (observes : Call → Bool) (operation : Open) (reply : Reply) (pending : List Open) (nodes : List (ℕ × (Placed × Option ℕ))) (now : ℕ) where
  abbrev pub completed : Placed
  completed = record { at = operation.at; reply = reply }

  -- what an early update that leads to this state leaves on offer: what was, and what it gives to early observers
  abbrev pub AreAhead : Member S × Path → S × List (ℕ × Reply) → List (ℕ × (ℕ × Reply)) → Type 0
  AreAhead m c offers = IsOffering (GivesAny step observes (early_of m.1.until pending) c) m.1.round (watched observes pending m.0.offers) offers

  -- the update returns, placed behind all
  pub record IsReturnedBehind (m n : Member S × Path) : Type 0 where
    pub update : observes operation.call ≡ false
    pub steps : step m.0.state operation.call n.0.state reply
    pub placed : n.0.placed ≡ m.0.placed
    pub offers : AreBehind step observes pending m n.0.offers
    pub begins : BeginsRound nodes m.1 n.1 completed
    pub until : n.1.until ≡ now

  -- the update returns, placed ahead of the last one, which overwrites it
  pub record IsReturnedAhead (m : Member S × Path) (next : S) (n : Member S × Path) : Type 0 where
    pub update : observes operation.call ≡ false
    pub early : operation.at < m.1.until
    pub steps : step m.0.state operation.call next reply
    pub state : n.0.state ≡ m.0.state
    pub placed : n.0.placed ≡ m.0.placed
    pub offers : AreAhead m (next, m.0.placed) n.0.offers
    pub ahead : IsAheadOf nodes m.1 n.1 completed

  -- the observer takes a reply that is on offer, or that the state gives
  pub record IsAnsweredStill (m n : Member S × Path) : Type 0 where
    pub answered : IsAnswered step observes operation reply pending nodes m n
    pub until : n.1.until ≡ m.1.until

  -- an update that gives the observer its reply is placed behind all, and then the observer
  pub record IsAskedBehind (m : Member S × Path) (p : Placed) (n : Member S × Path) : Type 0 where
    pub observer : observes operation.call ≡ true
    pub places : PlacesUpdate step observes pending (m.0.state, m.0.placed) p (n.0.state, n.0.placed)
    pub gives : (last : S) × step n.0.state operation.call last reply
    pub offers : AreBehind step observes pending m n.0.offers
    pub mid : Path
    pub begins : BeginsRound nodes m.1 mid p
    pub begun : mid.until ≡ now
    pub puts : IsPutIn nodes mid n.1 completed mid.round

  -- an early update that gives it is placed ahead of the last one, and the observer behind it
  pub record IsAskedAhead (m : Member S × Path) (p : Placed) (next : S) (n : Member S × Path) : Type 0 where
    pub observer : observes operation.call ≡ true
    pub early : operation.at < m.1.until
    pub places : PlacesUpdate step observes (early_of m.1.until pending) (m.0.state, m.0.placed) p (next, n.0.placed)
    pub gives : (last : S) × step next operation.call last reply
    pub state : n.0.state ≡ m.0.state
    pub offers : AreAhead m (next, n.0.placed) n.0.offers
    pub mid : Path
    pub ahead : IsAheadOf nodes m.1 mid p
    pub puts : IsPutIn nodes mid n.1 completed m.1.round

  -- the completion makes the one member of the other
  abbrev pub IsCompletedWith : Member S × Path → Member S × Path → Type 0
  IsCompletedWith m n = IsReturnedBehind m n ⊎ (((next : S) × IsReturnedAhead m next n) ⊎ (IsAnsweredStill m n ⊎ (((p : Placed) × IsAskedBehind m p n) ⊎ ((p : Placed) × (next : S) × IsAskedAhead m p next n))))

  -- to those found were added only such
  pub record IsFindingWith (m : Member S × Path) (old out : List (Member S × Path)) : Type 0 where
    pub kept : (n : Member S × Path) → Contains old n → Contains out n
    pub sound : (n : Member S × Path) → Contains out n → Contains old n ⊎ IsCompletedWith m n

  -- what the update with the reply makes of the member is among those found
  pub record AreReturned (m : Member S × Path) (out : List (Member S × Path)) (next : S) : Type 0 where
    pub behind : (n : Member S × Path) × Contains out n × IsReturnedBehind m n × (n.0.state ≡ next)
    pub ahead : operation.at < m.1.until → (n : Member S × Path) × Contains out n × IsReturnedAhead m next n

  -- what placing an update ahead makes of it is, for one that stands for the update
  pub record IsAskedLikeAhead (m : Member S × Path) (out : List (Member S × Path)) (o : Open) (answer : Reply) (next : S) : Type 0 where
    pub placed : Open
    pub among : Contains (early_of m.1.until pending) placed
    pub stands : StandsFor placed o
    pub absent : IsAbsent placed.process m.0.placed
    pub member : Member S × Path
    pub there : Contains out member
    pub asked : IsAskedAhead m (record { at = placed.at; reply = answer }) next member
    pub has : member.0.placed ≡ insert_pair placed.process answer m.0.placed

  -- or behind
  pub record IsAskedLikeBehind (m : Member S × Path) (out : List (Member S × Path)) (o : Open) (answer : Reply) (next : S) : Type 0 where
    pub placed : Open
    pub among : Contains pending placed
    pub stands : StandsFor placed o
    pub absent : IsAbsent placed.process m.0.placed
    pub member : Member S × Path
    pub there : Contains out member
    pub asked : IsAskedBehind m (record { at = placed.at; reply = answer }) member
    pub state : member.0.state ≡ next
    pub has : member.0.placed ≡ insert_pair placed.process answer m.0.placed

  -- each update that gives the observer its reply is placed so
  pub record AreAsked (m : Member S × Path) (out : List (Member S × Path)) : Type 0 where
    pub never : (round : ℕ) → CanTake step operation reply m round → ⊥
    pub behind : (o : Open) (p : Placed) (d : S × List (ℕ × Reply)) → Contains pending o → PlacesIfUpdate step observes o (m.0.state, m.0.placed) p d → ((last : S) × step d.0 operation.call last reply) → IsAskedLikeBehind m out o p.reply d.0
    pub ahead : operation.at < m.1.until → (o : Open) (p : Placed) (d : S × List (ℕ × Reply)) → Contains (early_of m.1.until pending) o → PlacesIfUpdate step observes o (m.0.state, m.0.placed) p d
        → ((last : S) × step d.0 operation.call last reply) → IsAskedLikeAhead m out o p.reply d.0

  -- all that the completion makes of the member is among those found
  pub record AreFoundWith (m : Member S × Path) (out : List (Member S × Path)) : Type 0 where
    pub returns : observes operation.call ≡ false → (next : S) → step m.0.state operation.call next reply → AreReturned m out next
    pub asks : observes operation.call ≡ true → ((n : Member S × Path) × Contains out n × IsAnsweredStill m n) ⊎ AreAsked m out

  -- what the completion makes of members: those that placed the operation with the reply, without it, and what it makes of those that didn't place it
  pub record IsReturnWith (members out : List (Member S × Path)) : Type 0 where
    pub taken : (m : Member S × Path) → Contains members m → Contains m.0.placed (operation.process, reply) → Contains out (rest_of observes pending operation.process m)
    pub found : (m : Member S × Path) → Contains members m → IsAbsent operation.process m.0.placed → AreFoundWith m out
    pub sound : (n : Member S × Path) → Contains out n → (m : Member S × Path) × Contains members m
        × ((Contains m.0.placed (operation.process, reply) × (n ≡ rest_of observes pending operation.process m)) ⊎ (IsAbsent operation.process m.0.placed × IsCompletedWith m n))

-- what an event of the process makes of members
abbrev pub IsNextWith : {S : Type 0} → (S → Call → S → Reply → Type 0) → (Call → Bool) → ℕ → Body → List Open → List Open → List (ℕ × (Placed × Option ℕ)) → ℕ → List (Member S × Path) → List (Member S × Path) → Type 0
IsNextWith step observes process (Invoke call) before pending nodes now members out = IsMade (λ m. Unit {0}) (copy_of observes pending) members out
IsNextWith step observes process (Info name) before pending nodes now members out = IsMade (λ m. Unit {0}) (copy_of observes pending) members out
IsNextWith step observes process (Fail name) before pending nodes now members out = IsMade (λ m. IsAbsent process m.0.placed) (copy_of observes pending) members out
IsNextWith step observes process (Ok name reply) before pending nodes now members out = (o : Open) × Contains before o × (o.process ≡ process) × IsReturnWith step observes o reply pending nodes now members out

-- the member, for which no update is early enough to be overwritten
abbrev pub alone_of : {S : Type 0} → Member S × Path → Member S × Path
alone_of m = (m.0, record { node = m.1.node; round = m.1.round; until = 0 })

-- where the object is overwritten, no update is early enough for any of the members
abbrev pub AreAlone : {S : Type 0} → Bool → List (Member S × Path) → Type 0
AreAlone {S} overwriting members = overwriting ≡ true → (m : Member S × Path) → Contains members m → m.1.until ≡ 0
