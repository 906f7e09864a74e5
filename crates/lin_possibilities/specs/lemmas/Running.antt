-- A process that goes on has not crashed.
use Rattle.std.proofs.Common.{◌≡◌, ◌<◌, ℕ, Bool, List, [], ◌∷◌, ◌++◌, length, inl, inr, sym, ap, subst, ◌∙◌, arith}
use Rattle.std.proofs.lemmas.Bool.{cases_order}
use Rattle.std.proofs.lemmas.Option.{slice_get_within}
use Rattle.lin_events.specs.declared.items.Item.{Item}
use Rattle.lin_lists.specs.lemmas.Lists.{get_last, get_left}
use Rattle.lin_events.specs.declared.calls.Name.{Name}
use Rattle.lin_events.specs.declared.events.Body.TheVariants.{Info}
use Rattle.lin_events.specs.declared.events.Event.{Event}
use Rattle.lin_events.specs.Alternation.{IsReturn}
use Rattle.lin_events.specs.Operations.{IsEnd, IsOperation}
use Rattle.lin_events.specs.WellFormed.{Completes, IsWellFormed}
use Rattle.lin_events.specs.lemmas.Alternating.{alternates, one_end}
use Rattle.lin_events.specs.lemmas.OneMore.{end_kept}
use Rattle.lin_possibilities.specs.Outcomes.{HasNotCrashed}

-- an operation that ended with an info returns nowhere
never_returns : (h : List Event) (at end other : ℕ) (ending : Event) (name : Name) → IsEnd h at end ending → ending.body ≡ Info name → IsReturn h at other → ⊥
never_returns h at end other ending name e is returned = elim returned [
  | inl ok ↦ let same = sym is ∙ ap (λ (x : Event). x.body) (one_end h at end other ending ok.1.0 e ok.1.1).1 ∙ ok.1.3 in cc
  | inr failed ↦ let same = sym is ∙ ap (λ (x : Event). x.body) (one_end h at end other ending failed.0 e failed.1).1 ∙ failed.3 in cc
]

return_place : (h : List Event) (at end other : ℕ) (ending : Event) → IsEnd h at end ending → IsReturn h at other → end ≡ other
return_place h at end other ending e returned = elim returned [
  | inl ok ↦ (one_end h at end other ending ok.1.0 e ok.1.1).0
  | inr failed ↦ (one_end h at end other ending failed.0 e failed.1).0
]

-- where the next event is a completion, no operation of its process crashed before
pub running_before : (functions : Item → Name → Bool) (h : List Event) (event : Event) (name : Name) → IsWellFormed functions (h ++ event ∷ []) → Completes event.body name → HasNotCrashed h event.process
running_before functions h event name well is at key call begins crashed =
    let g = h ++ event ∷ [] in
    let alternating = alternates functions g well in
    let done = alternating.completed (length h) event name (get_last h event) is in
    let e : IsEnd g at crashed.0 crashed.1 = end_kept h event at crashed.0 crashed.1 crashed.2 in
    let begun : IsOperation g at event.process key call = get_left h event at _ begins in
    let inside : crashed.0 < length h = slice_get_within h crashed.0 crashed.1 crashed.2.ends in
    let later : at < crashed.0 = crashed.2.later in
    elim (cases_order at done.0) [
      | inl same ↦
          let both = one_end g at crashed.0 (length h) crashed.1 event e (subst (λ k. IsEnd g k (length h) event) (sym same) done.4) in
          omega (arith, both.0)
      | inr rest ↦ elim rest [
        | inl before ↦
            let r = alternating.returned at done.0 event.process key event.key call done.1 before begun done.2 in
            never_returns g at crashed.0 r.0 crashed.1 crashed.3 e crashed.4 r.2
        | inr behind ↦
            let r = alternating.returned done.0 at event.process event.key key done.1 call behind done.2 begun in
            let place = return_place g done.0 (length h) r.0 event done.4 r.2 in
            let early : r.0 < at = r.1 in
            omega arith
      ]
    ]
