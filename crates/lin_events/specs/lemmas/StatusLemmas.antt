-- What a process is after events: it is one thing, and only an event of the process changes it.
use Rattle.std.proofs.Common.{◌≡◌, ◌≢◌, ℕ, ◌<◌, ◌≤◌, List, [], ◌∷◌, ◌++◌, length, inl, inr, refl, sym, ap, ◌∙◌, arith, Some, slice_get}
use Rattle.std.proofs.lemmas.Bool.{cases_order, cases_lt}
use Rattle.lin_events.specs.declared.events.Event.{Event}
use Rattle.lin_events.specs.Operations.{IsEvent, IsOf}
use Rattle.lin_events.specs.declared.shapes.ProcessStatus.{ProcessStatus}
use Rattle.lin_events.specs.WellFormed.{left_by, IsLast, IsStatus}
use Rattle.lin_lists.specs.lemmas.Lists.{get_left, get_inside, get_cases, get_last}

-- what stands at one position is one
pub one_event : (h : List Event) (k : ℕ) (a b : Event) → IsEvent h k a → IsEvent h k b → a ≡ b
one_event h k a b at_a at_b = some_same (sym at_a ∙ at_b)
  where
    some_same : Some a ≡ Some b → a ≡ b
    some_same e = cc

-- a process has one last event
pub one_last : (h : List Event) (process a b : ℕ) (x y : Event) → IsLast h process a x → IsLast h process b y → x ≡ y
one_last h process a b x y f g = elim (cases_order a b) [
  | inl same ↦ at_one same
  | inr differ ↦ elim differ [
    | inl below ↦ absurd (f.last b below (y, g.stands, g.same))
    | inr above ↦ absurd (g.last a above (x, f.stands, f.same))
  ]
]
  where
    at_one : a ≡ b → x ≡ y
    at_one e = one_event h a x y f.stands (ap (λ k. slice_get h k) e ∙ g.stands)

-- a process is one thing
pub one_status : (h : List Event) (process : ℕ) (s t : ProcessStatus) → IsStatus h process s → IsStatus h process t → s ≡ t
one_status h process s t (inl none) (inl none2) = none.1 ∙ sym none2.1
one_status h process s t (inl none) (inr found) = absurd (none.0 found.0 (found.1, found.2.stands, found.2.same))
one_status h process s t (inr found) (inl none) = absurd (none.0 found.0 (found.1, found.2.stands, found.2.same))
one_status h process s t (inr found) (inr found2) =
    let e = one_last h process found.0 found2.0 found.1 found2.1 found.2 found2.2 in
    found.3 ∙ ap left_by e ∙ sym found2.3

-- an event decides what its process is after it
pub status_of_last : (h : List Event) (event : Event) → IsStatus (h ++ event ∷ []) event.process (left_by event)
status_of_last h event = inr (length h, event, record { stands = get_last h event; same = refl; last = none_past }, refl)
  where
    none_past : (k : ℕ) → length h < k → IsOf (h ++ event ∷ []) event.process k → ⊥
    none_past k past of_it = elim (get_cases h event k of_it.0 of_it.1) [
      | inl old ↦ let inside = get_inside h k of_it.0 old in omega arith
      | inr new ↦ let place : k ≡ length h = new.0 in omega arith
    ]

-- and leaves the others as they were
pub status_kept : (h : List Event) (event : Event) (process : ℕ) (status : ProcessStatus) → event.process ≢ process → IsStatus h process status → IsStatus (h ++ event ∷ []) process status
status_kept h event process status other (inl none) = inl (λ k of_it. was k of_it, none.1)
  where
    was : (k : ℕ) → IsOf (h ++ event ∷ []) process k → ⊥
    was k of_it = elim (get_cases h event k of_it.0 of_it.1) [
      | inl old ↦ none.0 k (of_it.0, old, of_it.2)
      | inr new ↦ other (ap (λ (e : Event). e.process) new.1 ∙ of_it.2)
    ]
status_kept h event process status other (inr found) =
    inr (found.0, found.1, record { stands = get_left h event found.0 found.1 found.2.stands; same = found.2.same; last = none_past }, found.3)
  where
    none_past : (k : ℕ) → found.0 < k → IsOf (h ++ event ∷ []) process k → ⊥
    none_past k past of_it = elim (get_cases h event k of_it.0 of_it.1) [
      | inl old ↦ found.2.last k past (of_it.0, old, of_it.2)
      | inr new ↦ other (ap (λ (e : Event). e.process) new.1 ∙ of_it.2)
    ]

-- an event of another process is passed over
pub none_more : (h : List Event) (process at : ℕ) (event : Event) → IsEvent h at event → (event.process ≡ process → ⊥) → ((k : ℕ) → at < k → IsOf h process k → ⊥) → (k : ℕ) → at ≤ k → IsOf h process k → ⊥
none_more h process at event stands other none k from of_it = elim (cases_lt at k) [
  | inl past ↦ none k past of_it
  | inr upto ↦ let same : at ≡ k = omega arith in other (ap (λ (e : Event). e.process) (one_event h at event of_it.0 stands (ap (λ n. slice_get h n) same ∙ of_it.1)) ∙ of_it.2)
]

-- what the look back stops at
pub status_here : (h : List Event) (process at : ℕ) (event : Event) (status : ProcessStatus) → IsEvent h at event → event.process ≡ process → status ≡ left_by event → ((k : ℕ) → at < k → IsOf h process k → ⊥) → IsStatus h process status
status_here h process at event status stands same left none = inr (at, event, record { stands = stands; same = same; last = none }, left)
