-- What a failing operation could have returned, and what the object could be before its end: by the legal orders of the events before that
-- (Herlihy and Wing 1990, section 2).
use Rattle.std.specs.Prelude.{◌≡◌, ◌≢◌, ◌↔◌, ℕ, List, All, AllPairs, Contains, IsTrue, Option, Some, None, length, map, option_map, take}
use Rattle.std.specs.List.{AllZip}
use Rattle.lin_events.specs.declared.items.Item.{Item}
use Rattle.lin_events.specs.declared.calls.Call.{Call}
use Rattle.lin_events.specs.declared.calls.Reply.{Reply}
use Rattle.lin_events.specs.declared.events.Event.{Event}
use Rattle.lin_events.specs.Operations.{IsCrashed, IsOperation}
use Rattle.lin_names.specs.Spelled.{Spelled}
use Rattle.lin_objects.specs.declared.kinds.Kind.{Kind}
use Rattle.lin_objects.specs.declared.states.State.{State}
use Rattle.lin_order.specs.declared.placed.Placed.{Placed}
use Rattle.lin_possibilities.specs.Possible.{Answers, LeavesIn}
use Rattle.lin_tables.specs.Values.{state_text}
use Rattle.lin_tables.specs.declared.tables.ListLine.{ListLine}
use Rattle.lin_possibilities.specs.declared.listing.Listed.{Listed}
use Rattle.lin_possibilities.specs.declared.outcomes.Before.{Before}
use Rattle.lin_possibilities.specs.declared.outcomes.Outcomes.{Outcomes}
use Rattle.lin_possibilities.specs.Ranks.{IsRisingBy, members_in, reply_rank, state_rank}
use Rattle.lin_possibilities.specs.Whole.{whole_state}
use Rattle.lin_possibilities.specs.Words.{after_text, ahead_of, reply_words}
use Rattle.lin_possibilities.specs.declared.words.Extent.TheVariants.{Short, Whole}

-- the events before the end of a failing operation, where that was invoked, and the reply that its end has; none where it is a fail
pub record Failing : Type 0 where
  pub kind : Kind
  pub events : List Event
  pub call : ℕ
  pub process : ℕ
  pub recorded : Option Reply

abbrev pub failing_of : Before → Failing
failing_of b = record { kind = b.kind; events = b.events.now; call = b.call; process = b.process; recorded = option_map (λ r. r.now) b.recorded }

-- no operation of the process crashed
abbrev pub HasNotCrashed : List Event → ℕ → Type 0
HasNotCrashed h process = (at : ℕ) (key : Item) (call : Call) → IsOperation h at process key call → IsCrashed h at → ⊥

-- all that some order shows, each once, rising
pub record AreAll {T : Type 0} (shows : List Placed → T → Type 0) (rank : T → ℕ × List Spelled) (all : List T) : Type 0 where
  pub sound : All (λ what. (order : List Placed) × shows order what) all
  pub complete : (order : List Placed) (what : T) → shows order what → Contains all what
  pub once : AllPairs ◌≢◌ all
  pub rising : IsRisingBy rank all

-- how many of them there are, and of the first, at most so many, the lines and the whole words
pub record IsListing {T : Type 0} (is_entry : T → ListLine → Type 0) (whole_words : T → List ℕ) (most : ℕ) (all : List T) (listed : Listed) : Type 0 where
  pub counted : listed.count ≡ length all
  pub entries : AllZip is_entry (take most all) listed.entries.items
  pub whole : map (λ words. words.items) listed.whole.items ≡ map whole_words (take most all)

-- where the end is a fail no reply is listed
abbrev pub most_of : Option Reply → ℕ
most_of None = 0
most_of (Some reply) = 3

module _ (names : List (List ℕ)) where
  -- its words, and the last operations that some order which shows it has ahead
  pub record IsEntry {T : Type 0} (shows : List Placed → T → Type 0) (words : T → List ℕ) (ahead : List Placed → List Placed) (h : List Event) (what : T) (entry : ListLine) : Type 0 where
    pub told : entry.words.items ≡ words what
    pub order : List Placed
    pub shown : shows order what
    pub after : entry.after.items ≡ after_text names h (ahead order)

  -- all states that the object could have
  abbrev pub AreStates : Kind → List Event → List State → Type 0
  AreStates kind h states = AreAll (LeavesIn kind h) (state_rank names) states

  -- all replies that the failing operation could have returned
  abbrev pub AreReplies : Failing → List Reply → Type 0
  AreReplies f replies = AreAll (Answers f.kind f.events f.process) (reply_rank names (members_in f.recorded)) replies

  -- Of the replies and of the states the first three, in lines and whole. A reply is told with the operations ahead of the failing one, a state with the last of all.
  pub record AreOutcomes (f : Failing) (outcomes : Outcomes) : Type 0 where
    pub replies : List Reply
    pub states : List State
    pub are_replies : AreReplies f replies
    pub are_states : AreStates f.kind f.events states
    pub replies_listed : IsListing (IsEntry (Answers f.kind f.events f.process) (reply_words Short names (members_in f.recorded)) (ahead_of f.call) f.events) (reply_words Whole names (members_in f.recorded)) (most_of f.recorded) replies outcomes.replies
    pub states_listed : IsListing (IsEntry (LeavesIn f.kind f.events) (state_text names) (λ order. order) f.events) (whole_state names) 3 states outcomes.states
    pub just_that : IsTrue outcomes.is_just_that ↔ (map (reply_words Short names (members_in f.recorded)) replies ≡ map (state_text names) states)
