-- What a look back for the last event of a process finds.
use Rattle.std.proofs.Common.{◌≡◌, ℕ, ◌<◌, ◌≤◌, List, inl, inr, refl, ap, ◌∙◌, arith, sym, slice_get, option_map, Some, None}
use Rattle.std.proofs.lemmas.Option.{slice_get-map}
use Rattle.std.proofs.lemmas.Bool.{cases_lt}
use Rattle.lin_events.specs.declared.events.Event.{Event}
use Rattle.lin_events.specs.Operations.{IsEvent, IsOf}
use Rattle.lin_events.specs.declared.shapes.ProcessStatus.{ProcessStatus}
use Rattle.lin_events.specs.declared.shapes.ProcessStatus.TheVariants.{Idle}
use Rattle.lin_events.specs.WellFormed.{left_by, IsStatus}
use Rattle.lin_wellformed.specs.Scans.{processes_of}
use Rattle.lin_wellformed.specs.Tables.{IsLastPlace}

-- what stands at one position is one
one_event : (h : List Event) (k : ℕ) (a b : Event) → IsEvent h k a → IsEvent h k b → a ≡ b
one_event h k a b at_a at_b = some_same (sym at_a ∙ at_b)
  where
    some_same : Some a ≡ Some b → a ≡ b
    some_same e = cc

-- an event of another process is passed over
pub none_more : (h : List Event) (process at : ℕ) (event : Event) → IsEvent h at event → (event.process ≡ process → ⊥) → ((k : ℕ) → at < k → IsOf h process k → ⊥) → (k : ℕ) → at ≤ k → IsOf h process k → ⊥
none_more h process at event stands other none k from of_it = elim (cases_lt at k) [
  | inl past ↦ none k past of_it
  | inr upto ↦ let same : at ≡ k = omega arith in other (ap (λ (e : Event). e.process) (one_event h at event of_it.0 stands (ap (λ n. slice_get h n) same ∙ of_it.1)) ∙ of_it.2)
]

-- what the look back stops at
pub status_here : (h : List Event) (process at : ℕ) (event : Event) (status : ProcessStatus) → IsEvent h at event → event.process ≡ process → status ≡ left_by event → ((k : ℕ) → at < k → IsOf h process k → ⊥) → IsStatus h process status
status_here h process at event status stands same left none = inr (at, event, record { stands = stands; same = same; last = none }, left)

-- the process of an event at a place
pub process_at : (h : List Event) (process k : ℕ) → IsOf h process k → slice_get (processes_of h) k ≡ Some process
process_at h process k of_it = slice_get-map (λ (e : Event). e.process) h k ∙ ap (option_map (λ (e : Event). e.process)) of_it.1 ∙ ap Some of_it.2

-- a process that stands at no place is idle
pub status_none : (h : List Event) (process : ℕ) → IsLastPlace (processes_of h) process None → IsStatus h process Idle
status_none h process none = inl ((λ k of_it. none k (process_at h process k of_it)), refl)

-- and one that has its last place there is what that event left it as
pub status_last : (h : List Event) (process at : ℕ) (event : Event) (status : ProcessStatus) → IsEvent h at event → IsLastPlace (processes_of h) process (Some at) → status ≡ left_by event → IsStatus h process status
status_last h process at event status stands last left = status_here h process at event status stands same left (λ k past of_it. last.1 k past (process_at h process k of_it))
  where
    same : event.process ≡ process
    same = some_same (sym (slice_get-map (λ (e : Event). e.process) h at ∙ ap (option_map (λ (e : Event). e.process)) stands) ∙ last.0)
      where
        some_same : Some event.process ≡ Some process → event.process ≡ process
        some_same e = cc
