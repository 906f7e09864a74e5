-- Quiet places, from the left.
use Rattle.std.proofs.Common.{◌≡◌, ◌↔◌, ◌+◌, ◌<◌, ◌≤◌, ℕ, zero, suc, max, List, Option, None, Some, MatchOption, length, inl, inr, sym, subst, arith}
use Rattle.std.proofs.lemmas.Bool.{cases_lt}
use Rattle.lin_events.specs.declared.events.Event.{Event}
use Rattle.lin_events.specs.Operations.{IsEnd}
use Rattle.lin_order.specs.lemmas.OneEnd.{one_end}
use Rattle.lin_tables.specs.WindowOperations.{HasEnded, IsInvoked, IsLastQuiet, IsQuietAt}
use Rattle.lin_tables.specs.lemmas.Standing.{invoked_within}
use Rattle.lin_tables.proofs.Passing.{LastBelow}

module _ (h : List Event) where
  -- the operation at the place, if there is one, has ended by each place from `until` on
  abbrev pub IsBusyUntil : ℕ → ℕ → Type 0
  IsBusyUntil at until = (place : ℕ) → place < length h → (IsInvoked h at → HasEnded h at place) ↔ (until ≤ place)

  -- and so have all before a place
  abbrev pub AreBusyUntil : ℕ → ℕ → Type 0
  AreBusyUntil at until = (place : ℕ) → place < length h → ((k : ℕ) → k < at → IsInvoked h k → HasEnded h k place) ↔ (until ≤ place)

  pub busy_none : (at : ℕ) → (IsInvoked h at → ⊥) → IsBusyUntil at 0
  busy_none at never place inside = (λ all. omega arith, λ later begins. absurd (never begins))

  pub busy_ended : (at end : ℕ) (ending : Event) → IsInvoked h at → IsEnd h at end ending → IsBusyUntil at (end + 1)
  busy_ended at end ending begins e place inside = (
    λ all. let found = all begins in let same = one_end h at found.0 end found.1 ending found.2 e in let before = found.3 in omega (arith, same, before),
    λ later again. (end, ending, e, omega (arith, later)),
  )

  pub busy_always : (at : ℕ) → IsInvoked h at → ((end : ℕ) (ending : Event) → IsEnd h at end ending → ⊥) → IsBusyUntil at (length h)
  busy_always at begins never place inside = (
    λ all. let found = all begins in absurd (never found.0 found.1 found.2),
    λ later. absurd (omega (arith, later, inside)),
  )

  pub all_busy_none : AreBusyUntil 0 0
  all_busy_none place inside = (λ all. omega arith, λ later k before. absurd (omega (arith, before)))

  pub all_busy_more : (at busy until : ℕ) → AreBusyUntil at busy → IsBusyUntil at until → AreBusyUntil (at + 1) (max busy until)
  all_busy_more at busy until so_far here place inside = (
    λ all.
        let one = (so_far place inside).0 (λ k before. all k (omega (arith, before))) in
        let other = (here place inside).0 (all at (omega arith)) in
        omega (arith, one, other),
    λ later k before. elim (cases_lt k at) [
      | inl below ↦ (so_far place inside).1 (omega (arith, later)) k below
      | inr above ↦
          let same : k ≡ at = omega (arith, before, above) in
          subst (λ i. IsInvoked h i → HasEnded h i place) (sym same) ((here place inside).1 (omega (arith, later)))
    ],
  )

  module _ (call : ℕ) where
    -- a quiet place up to the operation
    abbrev pub IsQuietUpTo : ℕ → Type 0
    IsQuietUpTo place = (place ≤ call) × IsQuietAt h place

    pub quiet_here : (at busy : ℕ) → AreBusyUntil at busy → (at ≤ call) × (busy ≤ at) × IsInvoked h at → IsQuietUpTo at
    quiet_here at busy so_far is = (is.0, record { begins = is.2; ended = (so_far at (invoked_within h at is.2)).1 is.1 })

    pub quiet_back : (at busy : ℕ) → AreBusyUntil at busy → IsQuietUpTo at → (at ≤ call) × (busy ≤ at) × IsInvoked h at
    quiet_back at busy so_far is = (is.0, (so_far at (invoked_within h at is.1.begins)).0 is.1.ended, is.1.begins)

    pub quiet_at_end : (last : Option ℕ) (place : ℕ) → length h ≤ place → LastBelow IsQuietUpTo place last → MatchOption last ((place : ℕ) → place ≤ call → IsQuietAt h place → ⊥) (λ from. IsLastQuiet h call from)
    quiet_at_end None place all none = λ at upto quiet. none at (let within = invoked_within h at quiet.begins in omega (arith, within, all)) (upto, quiet)
    quiet_at_end (Some from) place all found = record {
      quiet = found.0.1;
      not_after = found.0.0;
      last = λ at upto quiet. found.1 at (let within = invoked_within h at quiet.begins in omega (arith, within, all)) (upto, quiet);
    }

    none_begins : ((place : ℕ) → place ≤ call → IsQuietAt h place → ⊥) → (n : ℕ) → n ≤ call + 1 → (at : ℕ) → at < n → IsInvoked h at → ⊥
    none_begins never zero few at below begins = omega (arith, below)
    none_begins never (suc n) few at below begins =
        let so_far = none_begins never n (omega (arith, few)) in
        elim (cases_lt at n) [
          | inl before ↦ so_far at before begins
          | inr later ↦ never at (omega (arith, below, few)) (record {
            begins = begins;
            ended = λ k before again. absurd (so_far k (omega (arith, before, below)) again);
          })
        ]

    -- the first operation begins quietly
    pub some_quiet : IsInvoked h call → ((place : ℕ) → place ≤ call → IsQuietAt h place → ⊥) → ⊥
    some_quiet begins never = none_begins never (call + 1) (omega arith) call (omega arith) begins
