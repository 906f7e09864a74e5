-- What is kept of the objects of a history, after a change.
use Rattle.std.proofs.Common.{◌≡◌, ◌≢◌, ◌<◌, ◌≤◌, ℕ, List, [], ◌∷◌, ◌++◌, length, slice_get, set, AllPairs, Contains, Some, inl, inr, sym, ap, subst, ◌∙◌, arith}
use Rattle.std.proofs.lemmas.Option.{same_Some}
use Rattle.lin_events.specs.declared.items.Item.{Item}
use Rattle.lin_events.specs.declared.events.Event.{Event}
use Rattle.lin_events.specs.Operations.{IsEvent}
use Rattle.lin_objects.specs.declared.kinds.Kind.{Kind}
use Rattle.lin_session.specs.declared.kept.Object.{Object}
use Rattle.lin_session.specs.Objects.{IsObject, AreKept}
use Rattle.lin_lists.specs.lemmas.Lists.{get_set_cases}
use Rattle.lin_lists.specs.lemmas.Taken.{get_push_cases, one_place, Contains-slice_get}

module _ (kinds other : Item → Kind) (budget after : ℕ) (h edited : List Event) (split later : ℕ) (keys : List Item) (objects : List Object) (kept : AreKept kinds budget h split keys objects)
    (within : later ≤ length edited) where
  -- the object of one key changes
  pub AreKept-one : (i : ℕ) (key : Item) (object : Object) → slice_get keys i ≡ Some key
      → ((at : ℕ) (event : Event) → at < later → IsEvent edited at event → Contains keys event.key)
      → (old : Object) → slice_get objects i ≡ Some old → (IsObject kinds budget h split key old → IsObject other after edited later key object)
      → ((x : Item) (o : Object) → x ≢ key → IsObject kinds budget h split x o → IsObject other after edited later x o) → AreKept other after edited later keys (set objects i object)
  AreKept-one i key object key_at known old old_at one others = record {
    within = within;
    distinct = kept.distinct;
    known = known;
    each = λ j x o x_at o_at. elim (get_set_cases objects i object j o o_at) [
      | inl here ↦
          let same : key ≡ x = same_Some _ _ (sym key_at ∙ ap (slice_get keys) (sym here.0) ∙ x_at) in
          subst (λ k. IsObject other after edited later k o) same (subst (IsObject other after edited later key) here.1 (one (kept.each i key old key_at old_at)))
      | inr there ↦
          others x o (λ same. there.0 (one_place keys kept.distinct j i key (subst (λ k. slice_get keys j ≡ Some k) same x_at) key_at)) (kept.each j x o x_at there.1)
    ];
  }

  -- no object that is listed changes
  pub AreKept-none : ((at : ℕ) (event : Event) → at < later → IsEvent edited at event → Contains keys event.key)
      → ((x : Item) (o : Object) → Contains keys x → IsObject kinds budget h split x o → IsObject other after edited later x o) → AreKept other after edited later keys objects
  AreKept-none known others = record {
    within = within;
    distinct = kept.distinct;
    known = known;
    each = λ j x o x_at o_at. others x o (Contains-slice_get keys j x x_at) (kept.each j x o x_at o_at);
  }

  -- one more is listed
  pub AreKept-more : (key : Item) (object : Object) → length objects ≡ length keys → AllPairs (λ x y. x ≢ y) (keys ++ key ∷ [])
      → ((at : ℕ) (event : Event) → at < later → IsEvent edited at event → Contains (keys ++ key ∷ []) event.key)
      → IsObject other after edited later key object
      → ((x : Item) (o : Object) → x ≢ key → IsObject kinds budget h split x o → IsObject other after edited later x o) → (Contains keys key → ⊥)
      → AreKept other after edited later (keys ++ key ∷ []) (objects ++ object ∷ [])
  AreKept-more key object aligned distinct known one others absent = record {
    within = within;
    distinct = distinct;
    known = known;
    each = λ j x o x_at o_at. elim (get_push_cases keys key j x x_at) [
      | inl here ↦ elim (get_push_cases objects object j o o_at) [
        | inl new ↦ subst (λ k. IsObject other after edited later k o) here.1 (subst (IsObject other after edited later key) new.1 one)
        | inr old ↦ absurd (omega (arith, here.0, old.0, aligned))
      ]
      | inr there ↦ elim (get_push_cases objects object j o o_at) [
        | inl new ↦ absurd (omega (arith, there.0, new.0, aligned))
        | inr old ↦ others x o (λ same. absent (subst (Contains keys) same (Contains-slice_get keys j x there.1))) (kept.each j x o there.1 old.1)
      ]
    ];
  }
