-- The marks of the objects, where the chain of one of them was cut.
use Rattle.std.proofs.Common.{◌≡◌, ℕ, List, length, Some, inl, inr, refl, subst, arith, set, slice_get}
use Rattle.lin_events.specs.declared.items.Item.{Item}
use Rattle.lin_events.specs.declared.events.Event.{Event}
use Rattle.lin_objects.specs.declared.kinds.Kind.{Kind}
use Rattle.lin_order.specs.Parts.{part}
use Rattle.lin_chain.specs.Chains.{IsMarkBefore, mark_in}
use Rattle.lin_session.specs.declared.kept.Object.{Object}
use Rattle.lin_session.specs.declared.kept.Objects.{Objects}
use Rattle.lin_session.specs.Objects.{AreRight, listed_known}
use Rattle.lin_session.specs.Known.{mark_of}
use Rattle.lin_session.specs.Leaving.{IsAppended, IsTouched}
use Rattle.lin_session.specs.inner.Objects.{AreAppended, AreTouched, marks_in}
use Rattle.lin_session.proofs.Around.{IsCutChain}
use Rattle.lin_session.proofs.Listed.{marks_changed}
use Rattle.lin_session.proofs.Marking.{IsLonger-end, IsLonger-untaken, IsMarkBefore-untaken, marks_within}
use Rattle.lin_lists.specs.lemmas.Taken.{one_place}

module _ (kinds : Item → Kind) (budget : ℕ) (h : List Event) (s : Objects) (kept : AreRight s kinds budget h) (i : ℕ) (key : Item) (old object : Object)
    (key_at : slice_get s.keys.keys i ≡ Some key) (old_at : slice_get s.objects.items i ≡ Some old) where
  -- where the code cuts an object is where the edit touches it, or nothing was taken in
  pub marks_cut : (place there : ℕ) → IsCutChain place old.chain object.chain → (old.count ≡ length (part key h) → place ≡ there)
      → AreTouched key there (marks_in s) (mark_of (listed_known s.keys.keys (set s.objects.items i object)))
  marks_cut place there cut exact =
      let is = kept.each i key old key_at old_at in
      let edit = cut.mark (part key h) is.right in
      marks_changed (λ b. IsTouched b there) (λ m. refl) s.keys.keys s.objects.items (one_place s.keys.keys kept.distinct) i key old object key_at old_at (elim is.exact [
        | inl none ↦ IsMarkBefore-untaken place there (mark_in old.chain) (mark_in object.chain) none edit
        | inr all ↦ subst (λ p. IsMarkBefore p (mark_in old.chain) (mark_in object.chain)) (exact all) edit
      ])

  pub marks_longer : IsCutChain old.count old.chain object.chain → AreAppended key (marks_in s) (mark_of (listed_known s.keys.keys (set s.objects.items i object)))
  marks_longer cut =
      let is = kept.each i key old key_at old_at in
      let edit = cut.mark (part key h) is.right in
      let within = marks_within old.chain (part key h) is.right in
      marks_changed IsAppended (λ m. refl) s.keys.keys s.objects.items (one_place s.keys.keys kept.distinct) i key old object key_at old_at (elim is.exact [
        | inl none ↦ IsLonger-untaken old.count (mark_in old.chain) (mark_in object.chain) none edit
        | inr all ↦ IsLonger-end old.count (mark_in old.chain) (mark_in object.chain) (omega (arith, all, within.0)) (omega (arith, all, within.1)) (omega (arith, all, within.2)) edit
      ])
