-- The operations that are open after some events, and those that were open at earlier times to which one may go back.
use Rattle.std.specs.Prelude.{◌+◌, ◌<◌, ◌≤◌, ◌++◌, ℕ, List, length, take, drop, map, filter, nat_lt, vec_len, vec_capacity, false}
use Rattle.lin_events.specs.declared.events.Event.{Event}
use Rattle.lin_frontier.specs.declared.pending.Open.{Open}
use Rattle.lin_frontier.specs.Frontiers.{IsPending}
use Rattle.lin_frontier.specs.declared.opens.OpenList.{OpenList}
use Rattle.lin_frontier.specs.declared.opens.OpenMark.{OpenMark}

-- the operation as it was before it crashed
abbrev pub fresh : Open → Open
fresh o = record o { crashed = false }

-- those that were called before the event at the place, as they were before they crashed
abbrev pub called_before : ℕ → List Open → List Open
called_before place operations = filter (λ o. nat_lt o.at place) (map fresh operations)

-- The operations that were open at the mark, which was made before the event at the place: those that had crashed by then; and of those that are open now,
-- or have ended since, the ones that had been called.
abbrev pub open_at : OpenList → ℕ → OpenMark → List Open
open_at list place mark = take mark.crashed list.operations.items ++ called_before place (drop mark.crashed list.operations.items ++ drop mark.ended list.ended.items)

-- the mark tells what is open after the first `place` events
pub record IsPast (list : OpenList) (h : List Event) (place : ℕ) (mark : OpenMark) : Type 0 where
  pub marked : place ≤ list.marked
  pub crashed : mark.crashed ≤ list.crashed
  pub ended : mark.ended ≤ length list.ended.items
  pub open_then : IsPending (take place h) (open_at list place mark)

-- one mark was made no later than the other
abbrev pub IsEarlier : OpenMark → OpenMark → Type 0
IsEarlier first second = (first.crashed ≤ second.crashed) × (first.ended ≤ second.ended)

-- there is memory for one more event
abbrev pub HasRoom : OpenList → Type 0
HasRoom list = (vec_len list.operations + vec_len list.ended + 1 ≤ vec_capacity list.operations) × (0 < list.marked → vec_len list.ended < vec_capacity list.ended)
