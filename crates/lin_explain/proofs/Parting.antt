-- The part of an object, event by event.
use Rattle.std.proofs.Common.{◌≡◌, ◌≢◌, ◌+◌, ℕ, suc, List, [], ◌∷◌, ◌++◌, Some, length, slice_get, take, ap, refl, sym, subst, true, ltb, get_or, ◌∙◌, arith}
use Rattle.std.proofs.lemmas.List.{length-take-le}
use Rattle.std.proofs.lemmas.Option.{slice_get_read, slice_get_within}
use Rattle.std.proofs.lemmas.Bool.{ltb-true}
use Rattle.lin_events.specs.declared.items.Item.{Item}
use Rattle.lin_events.specs.declared.events.Event.{Event}
use Rattle.lin_lists.specs.lemmas.Lists.{take_next}
use Rattle.lin_order.specs.PartLaws.{PartsGrow}
use Rattle.lin_order.specs.Parts.{ArePositionsOf, part}

one_longer : (h : List Event) (at : ℕ) (event : Event) → slice_get h at ≡ Some event → take (at + 1) h ≡ take at h ++ event ∷ []
one_longer h at event is = let next : at + 1 ≡ suc at = omega arith in ap (λ n. take n h) next ∙ take_next at h event is

module _ (grow : PartsGrow) (key : Item) (h : List Event) (at : ℕ) (event : Event) (is : slice_get h at ≡ Some event) (events : List Event) (picks : List ℕ)
    (so_far : (events ≡ part key (take at h)) × ArePositionsOf key (take at h) picks) where
  pub with_one : event.key ≡ key → (events ++ event ∷ [] ≡ part key (take (at + 1) h)) × ArePositionsOf key (take (at + 1) h) (picks ++ at ∷ [])
  with_one same =
      let next = one_longer h at event is in
      let growing = grow key (take at h) event in
      let size : length (take at h) ≡ at = length-take-le at h (let within = slice_get_within h at event is in omega (arith, within)) in (
        ap (λ l. l ++ event ∷ []) so_far.0 ∙ sym (growing.more same) ∙ ap (part key) (sym next),
        subst (λ l. ArePositionsOf key l (picks ++ at ∷ [])) (sym next) (subst (λ n. ArePositionsOf key (take at h ++ event ∷ []) (picks ++ n ∷ [])) size (growing.position picks same so_far.1)),
      )

  pub without_one : event.key ≢ key → (events ≡ part key (take (at + 1) h)) × ArePositionsOf key (take (at + 1) h) picks
  without_one differ =
      let next = one_longer h at event is in
      let growing = grow key (take at h) event in (
        so_far.0 ∙ sym (growing.same differ) ∙ ap (part key) (sym next),
        subst (λ l. ArePositionsOf key l picks) (sym next) (growing.no_position picks differ so_far.1),
      )

-- what a look-up in a slice finds stands there
pub looked_up : {A : Type 0} (xs : List A) (i : ℕ) (x : A) → true ≡ ltb i (length xs) → x ≡ get_or xs i x → slice_get xs i ≡ Some x
looked_up xs i x within is = slice_get_read xs (length xs) i x refl (ltb-true i (length xs) (sym within)) is
