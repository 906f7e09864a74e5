-- What the lines of a certificate tell, form by form, and which operations they name. Lists are of all operations that the form speaks of.
use Rattle.std.specs.Prelude.{◌≡◌, ◌+◌, ◌-◌, ◌<◌, ◌⊎◌, ℕ, List, [], ◌∷◌, ◌++◌, All, Contains, Option, None, Some, length, map, option_to_list, slice_get, take}
use Rattle.std.specs.List.{flat_map}
use Rattle.lin_events.specs.declared.items.Item.{Item}
use Rattle.lin_events.specs.declared.calls.Name.{Name}
use Rattle.lin_events.specs.declared.calls.Name.TheVariants as Named
use Rattle.lin_events.specs.declared.calls.Val.{Val}
use Rattle.lin_events.specs.declared.calls.Val.TheVariants.{Nil, Item as Held}
use Rattle.lin_events.specs.declared.events.Event.{Event}
use Rattle.lin_objects.specs.declared.kinds.Kind.{Kind}
use Rattle.lin_certificates.specs.Adding.{Adds}
use Rattle.lin_certificates.specs.Conflicts.{Leaves}
use Rattle.lin_certificates.specs.Certificates.{CanAdd, CanCall, CanLeave, Certifies, DidCall, OtherCanLeave, Overwrites, Spent, TookOut}
use Rattle.lin_certificates.specs.declared.certificate.Certificate.{Certificate}
use Rattle.lin_certificates.specs.declared.certificate.Certificate.TheVariants as Form
use Rattle.lin_certificates.specs.declared.words.Calls.{Calls}
use Rattle.lin_certificates.specs.declared.words.Calls.TheVariants.{Acquires, Releases}
use Rattle.lin_certificates.specs.Words.{IsOfCalls}
use Rattle.lin_certificate_lines.specs.Groups.{Fails, IsBetween, IsListing}
use Rattle.lin_certificate_lines.specs.Lines.{counted_text, crossed_text, inside_text, late_text, lost_text, overwritten_text, passed_text, shape_text, spent_text, split_text, stale_text, taken_text, twice_text, unadded_text, unwritten_text}
use Rattle.lin_certificate_lines.specs.Series.{firsts}
use Rattle.lin_certificate_lines.specs.Sides.{named_sides}
use Rattle.lin_certificate_lines.specs.Surplus.{IsPrecededTold, IsRemainingTold, surplus_line}
use Rattle.lin_certificate_lines.specs.Within.{IsWithinTold}
use Rattle.lin_certificate_lines.specs.declared.told.ObjectEvents.{ObjectEvents}

-- the lines tell that nothing leaves the item, and of those that failed to
pub record IsUnwrittenTold (told : ObjectEvents) (at : ℕ) (n : Item) (lines operations : List ℕ) : Type 0 where
  pub failed : List ℕ
  pub all_failed : IsListing (Fails told.events.now (λ call. Leaves call (Held n))) failed
  pub put : lines ≡ unwritten_text told at n failed
  pub named : operations ≡ at ∷ firsts failed

-- the lines tell that nothing adds the item, and of those that failed to
pub record IsUnaddedTold (told : ObjectEvents) (read : ℕ) (n : Item) (lines operations : List ℕ) : Type 0 where
  pub failed : List ℕ
  pub all_failed : IsListing (Fails told.events.now (λ call. Adds call n)) failed
  pub put : lines ≡ unadded_text told read n failed
  pub named : operations ≡ read ∷ firsts failed

-- so many operations that leave the value are told
abbrev pub most_told : Val → ℕ
most_told Nil = 2
most_told (Held v) = 3

-- where the value is the one that the register begins with, an operation is told that left some value instead
abbrev pub IsFirstOver : List Event → ℕ → Val → Option ℕ → Type 0
IsFirstOver h at Nil (Some over) = Overwrites h at over
IsFirstOver h at (Held v) None = Unit {0}
IsFirstOver h at _ _ = ⊥

-- both operations of each pair
abbrev pub both_of : ℕ × ℕ → List ℕ
both_of pair = pair.0 ∷ pair.1 ∷ []

abbrev pub named_over : ℕ → Option ℕ → List (ℕ × ℕ) → List ℕ
named_over at first pairs = at ∷ (option_to_list first ++ flat_map both_of pairs)

-- the lines tell of the first operations that leave the value, each with one that leaves some value between it and the one that needs the
-- value, and how many more there are
pub record IsOverwrittenTold (told : ObjectEvents) (at : ℕ) (v : Val) (lines operations : List ℕ) : Type 0 where
  pub others : List ℕ
  pub all_others : IsListing (OtherCanLeave told.events.now v at) others
  pub first : Option ℕ
  pub first_over : IsFirstOver told.events.now at v first
  pub pairs : List (ℕ × ℕ)
  pub pairs_begin : map (λ pair. pair.0) pairs ≡ take (most_told v) others
  pub each_between : All (λ pair. IsBetween told.events.now pair.0 at pair.1) pairs
  pub put : lines ≡ overwritten_text told at v first pairs (length others - most_told v)
  pub named : operations ≡ named_over at first pairs

-- the operations of the two pairs, where there is a second
abbrev pub all_four : ℕ × ℕ → Option (ℕ × ℕ) → List ℕ
all_four pair None = both_of pair
all_four pair (Some back) = both_of back ++ both_of pair

-- the lines tell how often the item was taken out, and how often it can have been put in
pub record IsTakenTold (told : ObjectEvents) (n : Item) (lines operations : List ℕ) : Type 0 where
  pub done : List ℕ
  pub may : List ℕ
  pub failed : List ℕ
  pub all_done : IsListing (TookOut told.events.now n) done
  pub all_may : IsListing (CanAdd told.events.now n) may
  pub all_failed : IsListing (Fails told.events.now (λ call. Adds call n)) failed
  pub put : lines ≡ taken_text told n done may failed
  pub named : operations ≡ named_sides done may failed

-- the lines tell which dequeue took the item first, if one did
pub record IsPassedTold (told : ObjectEvents) (enqueue later dequeue : ℕ) (n other : Item) (lines operations : List ℕ) : Type 0 where
  pub takes : List ℕ
  pub all_takes : IsListing (TookOut told.events.now n) takes
  pub put : lines ≡ passed_text told (enqueue, later) dequeue n other (slice_get takes 0)
  pub named : operations ≡ enqueue ∷ later ∷ dequeue ∷ option_to_list (slice_get takes 0)

-- the lines tell how often one of a lock's calls returned, and how often the other can have taken effect, which was too seldom
pub record IsCountedBy (told : ObjectEvents) (over under : Calls) (done_word may_word : Name) (spare : ℕ) (lines operations : List ℕ) : Type 0 where
  pub done : List ℕ
  pub may : List ℕ
  pub failed : List ℕ
  pub all_done : IsListing (DidCall told.events.now over) done
  pub all_may : IsListing (CanCall told.events.now under) may
  pub all_failed : IsListing (Fails told.events.now (IsOfCalls under)) failed
  pub more : length may + spare < length done
  pub put : lines ≡ counted_text told done_word may_word done may failed
  pub named : operations ≡ named_sides done may failed

-- one acquire needs no release before it
abbrev pub IsCountedTold : ObjectEvents → List ℕ → List ℕ → Type 0
IsCountedTold told lines operations = IsCountedBy told Releases Acquires Named.Release Named.Acquire 0 lines operations
    ⊎ IsCountedBy told Acquires Releases Named.Acquire Named.Release 1 lines operations

-- the lines tell the certificate of a register, a queue, a set or a lock, and name these operations
abbrev pub IsReasonOfRegister : ObjectEvents → Certificate → List ℕ → List ℕ → Type 0
IsReasonOfRegister told (Form.Shape read) lines operations = (lines ≡ shape_text told read) × (operations ≡ read ∷ [])
IsReasonOfRegister told (Form.Unwritten at n) lines operations = IsUnwrittenTold told at n lines operations
IsReasonOfRegister told (Form.Overwritten at v) lines operations = IsOverwrittenTold told at v lines operations
IsReasonOfRegister told (Form.Stale at v over w) lines operations = (lines ≡ stale_text told at v over w) × (operations ≡ at ∷ over ∷ [])
IsReasonOfRegister told (Form.Crossed v w early late back) lines operations = (lines ≡ crossed_text told v (Held w) (early, late) back) × (operations ≡ all_four (early, late) back)
IsReasonOfRegister told _ lines operations = (lines ≡ []) × (operations ≡ [])

abbrev pub IsReasonOfQueue : ObjectEvents → Certificate → List ℕ → List ℕ → Type 0
IsReasonOfQueue told (Form.Taken n) lines operations = IsTakenTold told n lines operations
IsReasonOfQueue told (Form.Passed enqueue later dequeue n other) lines operations = IsPassedTold told enqueue later dequeue n other lines operations
IsReasonOfQueue told (Form.Inside enqueue dequeue n) lines operations = (lines ≡ inside_text told enqueue dequeue n) × (operations ≡ enqueue ∷ dequeue ∷ [])
IsReasonOfQueue told c lines operations = IsReasonOfRegister told c lines operations

abbrev pub IsReasonOfSet : ObjectEvents → Certificate → List ℕ → List ℕ → Type 0
IsReasonOfSet told (Form.Unadded read n) lines operations = IsUnaddedTold told read n lines operations
IsReasonOfSet told (Form.Lost earlier read n) lines operations = (lines ≡ lost_text told earlier read n) × (operations ≡ earlier ∷ read ∷ [])
IsReasonOfSet told (Form.Split first second n other) lines operations = (lines ≡ split_text told (first, second) n other) × (operations ≡ first ∷ second ∷ [])
IsReasonOfSet told (Form.Late earlier add read n other) lines operations = (lines ≡ late_text told (earlier, add) read n other) × (operations ≡ earlier ∷ add ∷ read ∷ [])
IsReasonOfSet told c lines operations = IsReasonOfQueue told c lines operations

-- the lines tell how often the register was taken from the value to another one, and how often it can have come to it
pub record IsSpentTold (told : ObjectEvents) (v : Val) (lines operations : List ℕ) : Type 0 where
  pub done : List ℕ
  pub may : List ℕ
  pub failed : List ℕ
  pub all_done : IsListing (Spent told.events.now v) done
  pub all_may : IsListing (CanLeave told.events.now v) may
  pub all_failed : IsListing (Fails told.events.now (λ call. Leaves call v)) failed
  pub put : lines ≡ spent_text told v done may failed
  pub named : operations ≡ named_sides done may failed

abbrev pub IsReasonByCount : ObjectEvents → Certificate → List ℕ → List ℕ → Type 0
IsReasonByCount told (Form.Spent v) lines operations = IsSpentTold told v lines operations
IsReasonByCount told (Form.Remaining dequeue) lines operations = IsRemainingTold told dequeue lines operations
IsReasonByCount told (Form.Surplus dequeue ns) lines operations = (lines ≡ surplus_line told dequeue ns) × (operations ≡ dequeue ∷ [])
IsReasonByCount told (Form.Preceded later dequeue n) lines operations = IsPrecededTold told later dequeue n lines operations
IsReasonByCount told c lines operations = IsReasonOfSet told c lines operations

-- the lines tell the certificate, and name these operations
abbrev pub IsReason : ObjectEvents → Certificate → List ℕ → List ℕ → Type 0
IsReason told (Form.Twice first second) lines operations = (lines ≡ twice_text told first second) × (operations ≡ first ∷ second ∷ [])
IsReason told Form.Counted lines operations = IsCountedTold told lines operations
IsReason told (Form.Within calls from to) lines operations = IsWithinTold told calls from to lines operations
IsReason told c lines operations = IsReasonByCount told c lines operations

-- lines of this meaning, and the operations that they name, were put last
abbrev pub ArePut : (List ℕ → List ℕ → Type 0) → List ℕ → List ℕ → List ℕ → List ℕ → Type 0
ArePut Tells text text' named named' = (lines : List ℕ) × (more : List ℕ) × (text' ≡ text ++ lines) × (named' ≡ named ++ more) × Tells lines more

-- lines that tell the certificate were put last, and the list has the operations that they name, rising, each once
abbrev pub IsTold : ObjectEvents → Certificate → List ℕ → List ℕ → List ℕ → Type 0
IsTold told c text text' named = (lines : List ℕ) × (operations : List ℕ) × (text' ≡ text ++ lines) × IsReason told c lines operations × IsListing (Contains operations) named

-- the certificate holds of the object's events, for an object of some kind
abbrev pub IsCertified : List Event → Certificate → Type 0
IsCertified h c = (kind : Kind) × Certifies h kind c
