-- What can be decided: names, keys, and whether an event is of a process; and the nearest events of a process.
use Rattle.std.proofs.Common.{◌≡◌, ℕ, ◌<◌, ◌≤◌, zero, suc, Bool, true, false, List, ◌⊎◌, inl, inr, refl, sym, ap, ◌∙◌, subst, arith, true≢false, Option, Some, None, slice_get}
use Rattle.std.proofs.lemmas.Bool.{cases_lt, cases_eq}
use Rattle.lin_events.specs.declared.items.Item.{Item}
use Rattle.lin_events.specs.Items.{item_eq}
use Rattle.lin_events.specs.Sameness.{Decides-item_eq}
use Rattle.lin_events.specs.declared.calls.Name.{Name}
use Rattle.lin_events.specs.declared.calls.Name.TheVariants.{Read, Write, Cas, Enqueue, Dequeue, Add, Acquire, Release}
use Rattle.lin_events.specs.declared.events.Event.{Event}
use Rattle.lin_events.specs.Operations.{IsOf}
use Rattle.lin_events.specs.lemmas.StatusLemmas.{one_event}

pub name_cases : (a b : Name) → (a ≡ b) ⊎ (a ≡ b → ⊥)
name_cases Read Read = inl refl
name_cases Read _ = inr (λ e. cc)
name_cases Write Write = inl refl
name_cases Write _ = inr (λ e. cc)
name_cases Cas Cas = inl refl
name_cases Cas _ = inr (λ e. cc)
name_cases Enqueue Enqueue = inl refl
name_cases Enqueue _ = inr (λ e. cc)
name_cases Dequeue Dequeue = inl refl
name_cases Dequeue _ = inr (λ e. cc)
name_cases Add Add = inl refl
name_cases Add _ = inr (λ e. cc)
name_cases Acquire Acquire = inl refl
name_cases Acquire _ = inr (λ e. cc)
name_cases Release Release = inl refl
name_cases Release _ = inr (λ e. cc)

pub key_cases : (x y : Item) → (x ≡ y) ⊎ (x ≡ y → ⊥)
key_cases x y = by (item_eq x y) refl
  where
    by : (b : Bool) → item_eq x y ≡ b → (x ≡ y) ⊎ (x ≡ y → ⊥)
    by true e = inl ((Decides-item_eq x y).0 e)
    by false e = inr (λ same. true≢false (sym ((Decides-item_eq x y).1 same) ∙ e))

pub of_cases : (h : List Event) (process k : ℕ) → IsOf h process k ⊎ (IsOf h process k → ⊥)
of_cases h process k = by (slice_get h k) refl
  where
    by : (o : Option Event) → slice_get h k ≡ o → IsOf h process k ⊎ (IsOf h process k → ⊥)
    by None none = inr (λ of_it. let some : Some of_it.0 ≡ None = sym of_it.1 ∙ none in cc)
    by (Some event) stands = elim (cases_eq event.process process) [
      | inl same ↦ inl (event, stands, same)
      | inr other ↦ inr (λ of_it. other (ap (λ (e : Event). e.process) (one_event h k event of_it.0 stands of_it.1) ∙ of_it.2))
    ]

-- the last event of the process below the position, if there is one
pub last_below : (h : List Event) (process n : ℕ) → ((k : ℕ) → k < n → IsOf h process k → ⊥) ⊎ ((at : ℕ) × (at < n) × IsOf h process at × ((k : ℕ) → at < k → k < n → IsOf h process k → ⊥))
last_below h process zero = inl (λ k below of_it. omega arith)
last_below h process (suc n) = elim (of_cases h process n) [
  | inl here ↦ inr (n, omega arith, here, λ k past below of_it. omega arith)
  | inr other ↦ elim (last_below h process n) [
    | inl none ↦ inl (λ k below of_it. elim (cases_lt k n) [
      | inl before ↦ none k before of_it
      | inr from ↦ let same : k ≡ n = omega arith in other (subst (IsOf h process) same of_it)
    ])
    | inr found ↦ inr (
      found.0,
      omega (arith, found.1),
      found.2,
      λ k past below of_it. elim (cases_lt k n) [
        | inl before ↦ found.3 k past before of_it
        | inr from ↦ let same : k ≡ n = omega arith in other (subst (IsOf h process) same of_it)
      ],
    )
  ]
]

-- the first event of the process past the one position and below the other, if there is one
pub first_between : (h : List Event) (process from n : ℕ) → ((k : ℕ) → from < k → k < n → IsOf h process k → ⊥) ⊎ ((at : ℕ) × (from < at) × (at < n) × IsOf h process at × ((k : ℕ) → from < k → k < at → IsOf h process k → ⊥))
first_between h process from zero = inl (λ k past below of_it. omega arith)
first_between h process from (suc n) = elim (first_between h process from n) [
  | inl none ↦ elim (cases_lt from n) [
    | inl past ↦ elim (of_cases h process n) [
      | inl here ↦ inr (n, past, omega arith, here, none)
      | inr other ↦ inl (λ k after below of_it. elim (cases_lt k n) [
        | inl before ↦ none k after before of_it
        | inr upto ↦ let same : k ≡ n = omega arith in other (subst (IsOf h process) same of_it)
      ])
    ]
    | inr upto ↦ inl (λ k after below of_it. omega arith)
  ]
  | inr found ↦ inr (found.0, found.1, omega (arith, found.2), found.3, found.4)
]

-- the next event of the process, where there is a later one
pub next_of : (h : List Event) (process from later : ℕ) → from < later → IsOf h process later → (at : ℕ) × (from < at) × (at ≤ later) × IsOf h process at × ((k : ℕ) → from < k → k < at → IsOf h process k → ⊥)
next_of h process from later past of_it = elim (first_between h process from (suc later)) [
  | inl none ↦ absurd (none later past (omega arith) of_it)
  | inr found ↦ (found.0, found.1, omega (arith, found.2), found.3, found.4)
]
