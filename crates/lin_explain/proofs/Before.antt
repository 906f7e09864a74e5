-- The last event of a process before a position.
use Rattle.std.proofs.Common.{◌≡◌, ◌≢◌, ◌+◌, ◌<◌, ℕ, List, Option, None, Some, slice_get, sym, subst, ap, ◌∙◌, arith}
use Rattle.lin_events.specs.declared.events.Event.{Event}
use Rattle.lin_events.specs.Operations.{IsOf}
use Rattle.lin_explain.specs.IllFormed.{IsLastPlace}

module _ (h : List Event) (process at : ℕ) (event : Event) (is : slice_get h at ≡ Some event) where
  pub at_last : event.process ≡ process → IsLastPlace h process (at + 1) (Some at)
  at_last same = (omega arith, (event, is, same), λ k lt le of. absurd (omega (arith, lt, le)))

  not_here : event.process ≢ process → IsOf h process at → ⊥
  not_here differ of = let same : of.0 ≡ event = cc in differ (ap (λ (e : Event). e.process) (sym same) ∙ of.2)

  later : (P : ℕ → Type 0) → event.process ≢ process → (k : ℕ) → k < at + 1 → IsOf h process k → (k < at → ⊥) → ⊥
  later P differ k lt of before = let here : k ≡ at = omega (arith, lt, before) in not_here differ (subst (IsOf h process) here of)

  pub as_before : (found : Option ℕ) → event.process ≢ process → IsLastPlace h process at found → IsLastPlace h process (at + 1) found
  as_before None differ none = λ k lt of. later (λ n. ℕ) differ k lt of (λ le. none k le of)
  as_before (Some e) differ last = (omega (arith, last.0), last.1, λ k above lt of. later (λ n. ℕ) differ k lt of (λ le. last.2 k above le of))
