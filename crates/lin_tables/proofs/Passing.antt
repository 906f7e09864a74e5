-- What passes over the places of a history have found so far.
use Rattle.std.proofs.Common.{◌≡◌, ◌≢◌, ◌+◌, ◌<◌, ◌≤◌, ℕ, [], ◌∷◌, Option, None, Some, MatchOption, inl, inr, subst, refl, arith}
use Rattle.std.proofs.lemmas.Bool.{cases_lt}
use Rattle.std.proofs.lemmas.List.Elements.{Contains-append_right}
use Rattle.std.proofs.lemmas.List.Kept.{AllPairs-cons}
use Rattle.lin_lists.specs.lemmas.Elements.{all_of, first_or_rest, nothing_in}
use Rattle.lin_tables.specs.WindowOperations.{Exactly}

module _ (P : ℕ → Type 0) where
  -- none of those below a place
  pub none_more : (place : ℕ) → ((at : ℕ) → at < place → P at → ⊥) → (P place → ⊥) → (at : ℕ) → at < place + 1 → P at → ⊥
  none_more place so_far not_here at below is = elim (cases_lt at place) [
    | inl before ↦ so_far at before is
    | inr later ↦ let same : at ≡ place = omega (arith, later, below) in not_here (subst P same is)
  ]

  -- none of those from a place on
  pub none_fewer : (place : ℕ) → ((at : ℕ) → place + 1 ≤ at → P at → ⊥) → (P place → ⊥) → (at : ℕ) → place ≤ at → P at → ⊥
  none_fewer place so_far not_here at past is = elim (cases_lt place at) [
    | inl behind ↦ so_far at (omega (arith, behind)) is
    | inr here ↦ let same : at ≡ place = omega (arith, here, past) in not_here (subst P same is)
  ]

  -- the last of those below a place
  abbrev pub LastBelow : ℕ → Option ℕ → Type 0
  LastBelow place last = MatchOption last ((at : ℕ) → at < place → P at → ⊥) (λ found. P found × ((at : ℕ) → at < place → P at → at ≤ found))

  pub last_here : (place : ℕ) (last : Option ℕ) → P place → LastBelow (place + 1) (Some place)
  last_here place last here = (here, λ at below is. omega (arith, below))

  pub last_same : (place : ℕ) (last : Option ℕ) → LastBelow place last → (P place → ⊥) → LastBelow (place + 1) last
  last_same place None none not_here = λ at below is. none_more place none not_here at below is
  last_same place (Some found) last not_here = (
    last.0,
    λ at below is. elim (cases_lt at place) [
      | inl before ↦ last.1 at before is
      | inr later ↦ let same : at ≡ place = omega (arith, later, below) in absurd (not_here (subst P same is))
    ],
  )

  -- how many are below a place
  abbrev pub CountBelow : ℕ → ℕ → Type 0
  CountBelow place count = Exactly count (λ at. P at × (at < place))

  pub count_none : CountBelow 0 0
  count_none = ([], refl, λ i j d before within. absurd (omega arith), λ at. (λ is. let no = is.1 in absurd (omega (arith, no)), λ there. absurd (nothing_in at there)))

  pub count_here : (place count : ℕ) → CountBelow place count → P place → CountBelow (place + 1) (count + 1)
  count_here place count found here =
      let many = found.1 in (
        place ∷ found.0,
        omega (arith, many),
        AllPairs-cons ◌≢◌ place found.0 (all_of (λ at. place ≢ at) found.0 (λ at there same. let below = ((found.3 at).1 there).1 in omega (arith, below, same))) found.2,
        λ at. (
          λ is. elim (cases_lt at place) [
            | inl before ↦ Contains-append_right (place ∷ []) found.0 at ((found.3 at).0 (is.0, before))
            | inr later ↦ (0, omega arith, let below = is.1 in omega (arith, later, below))
          ],
          λ there. elim (first_or_rest place found.0 at there) [
            | inl same ↦ (subst P same here, omega (arith, same))
            | inr rest ↦ let was = (found.3 at).1 rest in (was.0, let below = was.1 in omega (arith, below))
          ],
        ),
      )

  pub count_same : (place count : ℕ) → CountBelow place count → (P place → ⊥) → CountBelow (place + 1) count
  count_same place count found not_here = (
    found.0,
    found.1,
    found.2,
    λ at. (
      λ is. elim (cases_lt at place) [
        | inl before ↦ (found.3 at).0 (is.0, before)
        | inr later ↦ let below = is.1 in let same : at ≡ place = omega (arith, later, below) in absurd (not_here (subst P same is.0))
      ],
      λ there. let was = (found.3 at).1 there in (was.0, let below = was.1 in omega (arith, below)),
    ),
  )

  pub count_at_end : (place count : ℕ) → CountBelow place count → ((at : ℕ) → P at → at < place) → Exactly count P
  count_at_end place count found all = (found.0, found.1, found.2, λ at. ((λ is. (found.3 at).0 (is, all at is)), λ there. ((found.3 at).1 there).0))
