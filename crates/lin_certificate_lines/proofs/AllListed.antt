-- Lists of all operations that are such, as far as a pass over them has come, and in the end.
use Rattle.std.proofs.Common.{◌≡◌, ◌<◌, ◌+◌, ◌⊎◌, ◌≢◌, ℕ, List, [], ◌∷◌, ◌++◌, AllPairs, Contains, length, get_or, eqb, inl, inr, sym, subst, arith}
use Rattle.std.specs.List.{dedup}
use Rattle.std.specs.List.Sorted.{IsSorted, IsPermutation}
use Rattle.std.specs.Ordering.{nat_cmp}
use Rattle.std.proofs.lemmas.Bool.{cases_lt}
use Rattle.std.proofs.lemmas.List.Elements.{Contains-append_cases, Contains-append_left, Contains-append_right, Contains-get_or, Contains-push}
use Rattle.std.proofs.lemmas.List.Kept.{AllPairs-from_increasing, Contains-dedup_nat, Contains-from_dedup}
use Rattle.std.proofs.lemmas.List.Quantifiers.{all_pairs_push}
use Rattle.std.proofs.lemmas.List.Sorted.{Contains-permutation, IsPermutation-sym}
use Rattle.std.proofs.lemmas.Map.Keys.{IsStrictlyIncreasing-dedup}
use Rattle.lin_lists.specs.lemmas.Elements.{first_or_rest, nothing_in}
use Rattle.lin_certificates.specs.lemmas.Counting.{no_more}
use Rattle.lin_certificates.specs.Words.{Exactly, IsOfWhich}
use Rattle.lin_certificates.specs.declared.words.Which.{Which}
use Rattle.lin_certificates.specs.declared.words.Which.TheVariants as Chosen
use Rattle.std.proofs.lemmas.Option.{slice_get_within}
use Rattle.lin_events.specs.declared.calls.Call.{Call}
use Rattle.lin_events.specs.declared.events.Event.{Event}
use Rattle.lin_order.specs.Orders.{IsCall}
use Rattle.lin_certificate_lines.specs.declared.groups.Group.{Group}
use Rattle.lin_certificate_lines.specs.declared.groups.Group.TheVariants.{Counts, CountsBut, Fails, FailsWithin, Returned, Overwrites, Between, Such}
use Rattle.lin_certificate_lines.specs.Groups.{IsInGroup, IsListing}

module _ (P : ℕ → Type 0) where
  -- those below a place
  abbrev pub ListsBelow : ℕ → List ℕ → Type 0
  ListsBelow place list = IsListing (λ at. P at × (at < place)) list

  pub lists_none : ListsBelow 0 []
  lists_none = (λ i j d before within. absurd (omega arith), λ at. ((λ is. let below = is.1 in absurd (omega (arith, below))), λ there. absurd (nothing_in at there)))

  pub lists_here : (place : ℕ) (list : List ℕ) → ListsBelow place list → P place → ListsBelow (place + 1) (list ++ place ∷ [])
  lists_here place list so_far here = (
    all_pairs_push ◌<◌ list place so_far.0 (λ k d within. ((so_far.1 (get_or list k d)).1 (Contains-get_or list k d within)).1),
    λ at. (
      λ is. elim (cases_lt at place) [
        | inl before ↦ Contains-append_left list (place ∷ []) at ((so_far.1 at).0 (is.0, before))
        | inr later ↦ let below = is.1 in let same : at ≡ place = omega (arith, later, below) in subst (Contains (list ++ place ∷ [])) (sym same) (Contains-push list place)
      ],
      λ there. elim (Contains-append_cases list (place ∷ []) at there) [
        | inl old ↦ let was = (so_far.1 at).1 old in (was.0, let below = was.1 in omega (arith, below))
        | inr new ↦ elim (first_or_rest place [] at new) [
          | inl same ↦ (subst P same here, omega (arith, same))
          | inr none ↦ absurd (nothing_in at none)
        ]
      ],
    ),
  )

  pub lists_same : (place : ℕ) (list : List ℕ) → ListsBelow place list → (P place → ⊥) → ListsBelow (place + 1) list
  lists_same place list so_far not_here = (
    so_far.0,
    λ at. (
      λ is. elim (cases_lt at place) [
        | inl before ↦ (so_far.1 at).0 (is.0, before)
        | inr later ↦ let below = is.1 in let same : at ≡ place = omega (arith, later, below) in absurd (not_here (subst P same is.0))
      ],
      λ there. let was = (so_far.1 at).1 there in (was.0, let below = was.1 in omega (arith, below)),
    ),
  )

  pub lists_all : (place : ℕ) (list : List ℕ) → ListsBelow place list → ((at : ℕ) → P at → at < place) → IsListing P list
  lists_all place list so_far all = (so_far.0, λ at. ((λ is. (so_far.1 at).0 (is, all at is)), λ there. ((so_far.1 at).1 there).0))

  -- it is as long as there are operations
  pub listed_exactly : (k : ℕ) (list : List ℕ) → IsListing P list → Exactly k P → length list ≡ k
  listed_exactly k list listed exactly =
      let apart : AllPairs ◌≢◌ list = λ i j d before within same. let below = listed.0 i j d before within in omega (arith, below, same) in
      let up = no_more list exactly.0 apart (λ at there. (exactly.3 at).0 ((listed.1 at).1 there)) in
      let down = no_more exactly.0 list exactly.2 (λ at there. (listed.1 at).0 ((exactly.3 at).1 there)) in
      let many = exactly.1 in
      omega (arith, up, down, many)

-- numbers in order, each once
pub sorted_once : (named sorted once : List ℕ) → IsPermutation named sorted → IsSorted nat_cmp sorted → once ≡ dedup eqb sorted → IsListing (Contains named) once
sorted_once named sorted once moved up is = subst (IsListing (Contains named)) (sym is) (
  AllPairs-from_increasing (dedup eqb sorted) (IsStrictlyIncreasing-dedup sorted up),
  λ at. (
    λ there. Contains-dedup_nat sorted at (Contains-permutation named sorted at moved there),
    λ there. Contains-permutation sorted named at (IsPermutation-sym named sorted moved) (Contains-from_dedup eqb sorted at there),
  ),
)

-- what a certificate speaks of is an operation, and so is what is one of a group
which_call : (h : List Event) (which : Which) (at : ℕ) → IsOfWhich h which at → (call : Call) × IsCall h at call
which_call h (Chosen.Counts calls) at is = (is.0, is.1)
which_call h (Chosen.CountsBut calls but) at is = (is.1.0, is.1.1)
which_call h (Chosen.CountsBelow calls place) at is = (is.0.0, is.0.1)
which_call h (Chosen.Returned answers) at is = (is.0, is.3)
which_call h (Chosen.ReturnedBut answers but) at is = (is.1.0, is.1.3)
which_call h (Chosen.ReturnedBefore answers place) at is = (is.0.0, is.0.3)
which_call h (Chosen.ReturnedWithin answers from to) at is = (is.0.0, is.0.3)
which_call h (Chosen.CountsWithin calls from to) at is = (is.0.0, is.0.1)
which_call h (Chosen.OpenBut calls but) at is = (is.1.0, is.1.1)
which_call h (Chosen.TakesAhead dequeue) at is = (is.1.0, is.1.1)

group_call : (h : List Event) (group : Group) (at : ℕ) → IsInGroup h group at → (call : Call) × IsCall h at call
group_call h (Counts calls) at is = (is.0, is.1)
group_call h (CountsBut calls but) at is = (is.1.0, is.1.1)
group_call h (Fails calls) at is = (is.0, is.1)
group_call h (FailsWithin calls from to) at is = (is.0.0, is.0.1)
group_call h (Returned answers) at is = (is.0, is.3)
group_call h (Overwrites last) at is = (is.0.0, is.0.3)
group_call h (Between first last) at is = (is.0.0.0, is.0.0.3)
group_call h (Such which) at is = which_call h which at is

-- and stands in the history
pub group_within : (h : List Event) (group : Group) (at : ℕ) → IsInGroup h group at → at < length h
group_within h group at is = let call = group_call h group at is in slice_get_within h at _ call.1.2

-- one of the first and the others is one of all
pub in_parts : (all others : List ℕ) (first last : ℕ) → all ≡ first ∷ others → (last ≡ first) ⊎ Contains others last → Contains all last
in_parts all others first last is there = subst (λ l. Contains l last) (sym is) (elim there [
  | inl same ↦ (0, omega arith, sym same)
  | inr behind ↦ Contains-append_right (first ∷ []) others last behind
])
