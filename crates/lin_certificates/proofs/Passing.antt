-- What passes over the operations of a history have found so far.
use Rattle.std.proofs.Common.{◌≡◌, ◌≢◌, ◌+◌, ◌<◌, ◌≤◌, ℕ, List, [], ◌∷◌, Option, None, Some, MatchOption, length, inl, inr, sym, subst, arith}
use Rattle.std.proofs.lemmas.Bool.{cases_lt}
use Rattle.std.proofs.lemmas.Option.{slice_get_within}
use Rattle.std.proofs.lemmas.List.Elements.{Contains-append_right}
use Rattle.std.proofs.lemmas.List.Kept.{AllPairs-cons}
use Rattle.lin_lists.specs.lemmas.Elements.{all_of, first_or_rest}
use Rattle.lin_events.specs.declared.calls.Call.{Call}
use Rattle.lin_events.specs.declared.events.Event.{Event}
use Rattle.lin_order.specs.Orders.{IsCall}
use Rattle.lin_certificates.specs.Words.{Exactly, IsLastOf, IsOfWhich}
use Rattle.lin_certificates.specs.declared.words.Which.{Which}
use Rattle.lin_certificates.specs.declared.words.Which.TheVariants.{Counts, CountsBut, CountsBelow, Returned, ReturnedBut, ReturnedBefore, ReturnedWithin, CountsWithin, OpenBut, TakesAhead}

-- what is one of these is an operation
which_call : (h : List Event) (which : Which) (at : ℕ) → IsOfWhich h which at → (call : Call) × IsCall h at call
which_call h (Counts calls) at is = (is.0, is.1)
which_call h (CountsBut calls but) at is = (is.1.0, is.1.1)
which_call h (CountsBelow calls place) at is = (is.0.0, is.0.1)
which_call h (Returned answers) at is = (is.0, is.3)
which_call h (ReturnedBut answers but) at is = (is.1.0, is.1.3)
which_call h (ReturnedBefore answers place) at is = (is.0.0, is.0.3)
which_call h (ReturnedWithin answers from to) at is = (is.0.0, is.0.3)
which_call h (CountsWithin calls from to) at is = (is.0.0, is.0.1)
which_call h (OpenBut calls but) at is = (is.1.0, is.1.1)
which_call h (TakesAhead dequeue) at is = (is.1.0, is.1.1)

-- and stands in the history
pub which_within : (h : List Event) (which : Which) (at : ℕ) → IsOfWhich h which at → at < length h
which_within h which at is = let call = which_call h which at is in slice_get_within h at _ call.1.2

module _ (P : ℕ → Type 0) where
  -- the last of those below a place
  abbrev pub LastBelow : ℕ → Option ℕ → Type 0
  LastBelow place last = MatchOption last ((at : ℕ) → at < place → P at → ⊥) (λ found. P found × ((at : ℕ) → at < place → P at → at ≤ found))

  pub last_here : (place : ℕ) (last : Option ℕ) → P place → LastBelow (place + 1) (Some place)
  last_here place last here = (here, λ at below is. omega (arith, below))

  pub last_same : (place : ℕ) (last : Option ℕ) → LastBelow place last → (P place → ⊥) → LastBelow (place + 1) last
  last_same place None none not_here = λ at below is. elim (cases_lt at place) [
    | inl before ↦ none at before is
    | inr here ↦ not_here (subst P (same at place here below) is)
  ]
    where
      same : (at place : ℕ) → place ≤ at → at < place + 1 → at ≡ place
      same at place here below = omega (arith, here, below)
  last_same place (Some found) last not_here = (
    last.0,
    λ at below is. elim (cases_lt at place) [
      | inl before ↦ last.1 at before is
      | inr here ↦ absurd (not_here (subst P (same at place here below) is))
    ],
  )
    where
      same : (at place : ℕ) → place ≤ at → at < place + 1 → at ≡ place
      same at place here below = omega (arith, here, below)

  pub last_at_end : (place : ℕ) (last : Option ℕ) → LastBelow place last → ((at : ℕ) → P at → at < place) → MatchOption last ((at : ℕ) → P at → ⊥) (IsLastOf P)
  last_at_end place None none all = λ at is. none at (all at is) is
  last_at_end place (Some found) last all = (last.0, λ at is. last.1 at (all at is) is)

  -- how many are below a place
  abbrev pub CountBelow : ℕ → ℕ → Type 0
  CountBelow place count = Exactly count (λ at. P at × (at < place))

  pub count_here : (place count : ℕ) → CountBelow place count → P place → CountBelow (place + 1) (count + 1)
  count_here place count found here =
      let many = found.1 in (
        place ∷ found.0,
        omega (arith, many),
        AllPairs-cons ◌≢◌ place found.0 (all_of (λ at. place ≢ at) found.0 (λ at there same. let below = ((found.3 at).1 there).1 in omega (arith, below, same))) found.2,
        λ at. (
          λ is. elim (cases_lt at place) [
            | inl before ↦ Contains-append_right (place ∷ []) found.0 at ((found.3 at).0 (is.0, before))
            | inr later ↦ (0, omega arith, let below = is.1 in omega (arith, later, below))
          ],
          λ there. elim (first_or_rest place found.0 at there) [
            | inl same ↦ (subst P same here, omega (arith, same))
            | inr rest ↦ let was = (found.3 at).1 rest in (was.0, let below = was.1 in omega (arith, below))
          ],
        ),
      )

  pub count_same : (place count : ℕ) → CountBelow place count → (P place → ⊥) → CountBelow (place + 1) count
  count_same place count found not_here = (
    found.0,
    found.1,
    found.2,
    λ at. (
      λ is. elim (cases_lt at place) [
        | inl before ↦ (found.3 at).0 (is.0, before)
        | inr later ↦ let below = is.1 in let same : at ≡ place = omega (arith, later, below) in absurd (not_here (subst P same is.0))
      ],
      λ there. let was = (found.3 at).1 there in (was.0, let below = was.1 in omega (arith, below)),
    ),
  )

  pub count_at_end : (place count : ℕ) → CountBelow place count → ((at : ℕ) → P at → at < place) → Exactly count P
  count_at_end place count found all = (found.0, found.1, found.2, λ at. ((λ is. (found.3 at).0 (is, all at is)), λ there. ((found.3 at).1 there).0))

  -- all below a place are so
  pub all_more : (Q : ℕ → Type 0) (place : ℕ) → ((at : ℕ) → at < place → P at → Q at) → (P place → Q place) → (at : ℕ) → at < place + 1 → P at → Q at
  all_more Q place so_far here at below is = elim (cases_lt at place) [
    | inl before ↦ so_far at before is
    | inr later ↦ let same : at ≡ place = omega (arith, later, below) in subst Q (sym same) (here (subst P same is))
  ]
