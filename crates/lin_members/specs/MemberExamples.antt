-- A register's write and read at once, as examples of members and of their rounds.
use Rattle.std.specs.Prelude.{List, [], ◌∷◌, Some, None}
use Rattle.lin_events.specs.declared.calls.Call.TheVariants.{Read, Write}
use Rattle.lin_events.specs.declared.calls.Name.TheVariants as Named
use Rattle.lin_events.specs.declared.calls.Reply.TheVariants as Replied
use Rattle.lin_events.specs.declared.calls.Val.{Val}
use Rattle.lin_events.specs.declared.calls.Val.TheVariants.{Nil}
use Rattle.lin_events.specs.declared.events.Body.TheVariants.{Invoke, Ok, Info}
use Rattle.lin_events.specs.declared.events.Event.{Event}
use Rattle.lin_events.specs.WellFormed.{IsWellFormed}
use Rattle.lin_objects.specs.declared.kinds.Kind.TheVariants.{Register}
use Rattle.lin_objects.specs.declared.states.State.{State}
use Rattle.lin_objects.specs.declared.states.State.TheVariants.{Value}
use Rattle.lin_objects.specs.Steps.{Step, start}
use Rattle.lin_objects.specs.Observing.{observes}
use Rattle.lin_order.specs.declared.placed.Placed.{Placed}
use Rattle.lin_order.specs.ConfigurationExamples.{of_registers, event}
use Rattle.lin_order.specs.ConfigurationLaws.{with_event}
use Rattle.lin_members.specs.Covers.{Covers, HasCrashed}
use Rattle.lin_members.specs.Members.{Leads, IsComplete, Dominates}
use Rattle.lin_members.specs.MemberLaws.{first_member}
use Rattle.lin_members.specs.Rounds.{SpellsRounds, IsOfferedIn, IsTrailOf}

-- process 0 writes and process 1 reads
abbrev pub both : Val → List Event
both v = event 0 (Invoke (Write v)) ∷ event 1 (Invoke Read) ∷ []

-- the read returns the value from before the write
abbrev pub read_returned : Val → List Event
read_returned v = with_event (both v) (event 1 (Ok Named.Read (Replied.Value Nil)))

-- the write and the read in an order
abbrev pub write : Placed
write = record { at = 0; reply = Replied.Done }

abbrev pub read : Placed
read = record { at = 1; reply = Replied.Value Nil }

-- the start leads to the state after the write, with the read of the value from before it
abbrev pub ReadsEarly : Type 0
ReadsEarly = (v : Val) → Leads (Step Register) (observes Register) (both v) (first_member (start Register)) (Value v, (0, Replied.Done) ∷ (1, Replied.Value Nil) ∷ [])

-- once the read has returned that value, the start alone is complete still
abbrev pub IsStillComplete : Type 0
IsStillComplete = (v : Val) → IsWellFormed of_registers (read_returned v) × IsComplete (start Register) (Step Register) (observes Register) (read_returned v) (first_member (start Register) ∷ [])

-- where the write was placed first, the read is put into the round before it
abbrev pub IsPutBefore : Type 0
IsPutBefore = (v : Val) → IsTrailOf (start Register) (Step Register) (observes Register) (read_returned v) (Value Nil ∷ Value v ∷ []) ((read ∷ []) ∷ (write ∷ []) ∷ [])
    (record { state = Value v; placed = (0, Replied.Done) ∷ []; offers = [] })

-- nodes that spell these rounds
abbrev pub SpellsTheseRounds : Type 0
SpellsTheseRounds = SpellsRounds ((0, (write, None)) ∷ (1, (read, Some 0)) ∷ []) 2 ((read ∷ []) ∷ (write ∷ []) ∷ [])

-- but a read that was invoked only after the write had returned cannot be put there
abbrev pub in_turn : Val → List Event
in_turn v = event 0 (Invoke (Write v)) ∷ event 0 (Ok Named.Write Replied.Done) ∷ event 1 (Invoke Read) ∷ []

abbrev pub IsTooLate : Type 0
IsTooLate = (v : Val) → IsOfferedIn (Step Register) (observes Register) (in_turn v) (Value Nil ∷ Value v ∷ []) ([] ∷ (write ∷ []) ∷ []) 0 2 (1, Replied.Value Nil) → ⊥

-- while the read is open, a member that has nothing on offer to it does not dominate one that has
abbrev pub OffersCount : Type 0
OffersCount = (v : Val) → Dominates (observes Register) (both v) (record { state = Value v; placed = (0, Replied.Done) ∷ []; offers = [] })
    (record { state = Value v; placed = (0, Replied.Done) ∷ []; offers = (0, (1, Replied.Value Nil)) ∷ [] }) → ⊥

-- once the write has crashed, what does not place it covers what does
abbrev pub CoversCrashed : Type 0
CoversCrashed = (v : Val) (state : State) → Covers {S = State} (HasCrashed (with_event (both v) (event 0 (Info Named.Write)))) (state, []) (state, (0, Replied.Done) ∷ [])
