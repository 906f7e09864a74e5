-- Of a history of one object, what is found of the whole is found of the object.
use Rattle.std.proofs.Common.{◌≡◌, ◌-◌, ℕ, Bool, true, false, List, [], ◌∷◌, length, take, inl, inr, refl, sym, subst, ◌∙◌, arith, slice_index_or}
use Rattle.std.proofs.lemmas.Bool.{false≢true}
use Rattle.std.proofs.lemmas.List.Elements.{Contains-push_cases}
use Rattle.lin_events.specs.declared.events.Event.{Event}
use Rattle.lin_events.specs.declared.items.Item.{Item}
use Rattle.lin_events.specs.Items.{item_eq}
use Rattle.lin_events.specs.Sameness.{Decides-item_eq}
use Rattle.lin_events.specs.Operations.{IsEvent}
use Rattle.lin_lists.specs.lemmas.Lists.{get_taken}
use Rattle.lin_order.specs.Linearizable.{IsLinearizable, IsLinearizableFor}
use Rattle.lin_order.specs.Merging.{AbsentKeysAreLegal, IsLocal}
use Rattle.lin_answers.specs.Answers.{IsObjectVerdict, IsOverAt, IsVerdict, IsWholeVerdict, kinds_in}
use Rattle.lin_answers.specs.Edits.{Present}
use Rattle.lin_answers.specs.Keys.{AreKeys}
use Rattle.lin_answers.specs.declared.answers.Scope.TheVariants.{Object, Whole}
use Rattle.lin_answers.specs.declared.answers.Verdict.{Verdict}
use Rattle.lin_answers.specs.declared.answers.Verdict.TheVariants.{IllFormed, Yes, No, Undecided}
use Rattle.lin_lists.specs.lemmas.Taken.{Contains-slice_get}

-- a list of one element
pub one_listed : (xs : List Item) (d : Item) → length xs ≡ 1 → xs ≡ slice_index_or xs 0 d ∷ []
one_listed [] d one = absurd (omega (arith, one))
one_listed (x ∷ []) d one = refl
one_listed (x ∷ y ∷ xs) d one = absurd (omega (arith, one))

-- each event is of the only key
pub only_key : (names : List (List ℕ)) (h : List Event) (key : Item) → AreKeys names h (key ∷ []) → (at : ℕ) (event : Event) → IsEvent h at event → event.key ≡ key
only_key names h key are at event stands = elim (Contains-push_cases [] key event.key ((are.each event.key).1 (event, Contains-slice_get h at event stands, refl))) [
  | inl (k, within, is) ↦ absurd (omega arith)
  | inr same ↦ sym same
]

module _ (local : IsLocal) (absent : AbsentKeysAreLegal) (now : Present) (key : Item) (only : (at : ℕ) (event : Event) → IsEvent now.history at event → event.key ≡ key) where
  -- a beginning of the history is linearizable, if it is for the object
  linearizable_if : (n : ℕ) → IsLinearizableFor (kinds_in now) key (take n now.history) → IsLinearizable (kinds_in now) (take n now.history)
  linearizable_if n linear = (local (kinds_in now) (take n now.history)).1 (λ x. by x (item_eq x key) refl)
    where
      by : (x : Item) (b : Bool) → item_eq x key ≡ b → IsLinearizableFor (kinds_in now) x (take n now.history)
      by x true e = subst (λ k. IsLinearizableFor (kinds_in now) k (take n now.history)) (sym ((Decides-item_eq x key).0 e)) linear
      by x false e = (
        [],
        absent (kinds_in now) (take n now.history) x (λ at event stands same.
            false≢true (sym e ∙ (Decides-item_eq x key).1 (sym same ∙ only at event (get_taken n now.history at event stands).1))),
      )

  of_object : (verdict : Verdict) → IsWholeVerdict (kinds_in now) now.budget now.history verdict → IsObjectVerdict (kinds_in now) now.budget now.history key verdict
  of_object (IllFormed at cause) is = is
  of_object Yes linear = (local (kinds_in now) now.history).0 linear key
  of_object (No n) short = record {
    within = short.within;
    fails = λ linear. short.fails (linearizable_if n linear);
    before = (local (kinds_in now) (take (n - 1) now.history)).0 short.before key;
  }
  of_object (Undecided at) is =
      let stands = is.2 in
      subst (λ k. IsOverAt (kinds_in now) now.budget now.history k at) (sym stands.same ∙ only at stands.event stands.stands) stands

  pub verdict_of_object : (verdict : Verdict) → IsVerdict now Whole verdict → IsVerdict now (Object key) verdict
  verdict_of_object (IllFormed at cause) is = is
  verdict_of_object Yes is = (is.0, of_object Yes is.1)
  verdict_of_object (No n) is = (is.0, of_object (No n) is.1)
  verdict_of_object (Undecided at) is = (is.0, of_object (Undecided at) is.1)
