-- What is kept of the objects under another budget.
use Rattle.std.proofs.Common.{◌≡◌, ◌≤◌, ℕ, List, length, slice_get, take, Some, inl, inr, sym, subst, ◌∙◌, arith}
use Rattle.std.proofs.lemmas.Option.{slice_get_within}
use Rattle.lin_events.specs.declared.items.Item.{Item}
use Rattle.lin_events.specs.declared.events.Event.{Event}
use Rattle.lin_objects.specs.declared.kinds.Kind.{Kind}
use Rattle.lin_order.specs.Parts.{ArePositionsOf, part}
use Rattle.lin_chain.specs.Chains.{mark_in}
use Rattle.lin_session.specs.declared.kept.Object.{Object}
use Rattle.lin_session.specs.Objects.{AreKept, listed_known}
use Rattle.lin_session.specs.inner.Objects.{IsRaisedObject}
use Rattle.lin_session.specs.Known.{mark_of}
use Rattle.lin_session.specs.Leaving.{IsRaised}
use Rattle.lin_lists.specs.lemmas.Taken.{element_at}
use Rattle.lin_session.proofs.Listed.{marks_zipped}
use Rattle.lin_session.proofs.Marking.{IsUntaken-raised, raised_unasked}

module _ (kinds : Item → Kind) (budget larger : ℕ) (h : List Event) (split : ℕ) (keys : List Item) (objects raised : List Object) (kept : AreKept kinds budget h split keys objects)
    (long : length raised ≡ length objects) (aligned : length objects ≡ length keys)
    (each : (i : ℕ) (old new : Object) → slice_get objects i ≡ Some old → slice_get raised i ≡ Some new → IsRaisedObject larger old new) where
  pub AreKept-raised : AreKept kinds larger h split keys raised
  AreKept-raised = record {
    within = kept.within;
    distinct = kept.distinct;
    known = kept.known;
    each = λ i key o key_at o_at.
        let within = slice_get_within raised i o o_at in
        let old = element_at objects i (omega (arith, within, long)) in
        let is = kept.each i key old.0 key_at old.1 in
        let more = each i old.0 o old.1 o_at in
        record {
          picked = subst (λ p. ArePositionsOf key (take split h) p.items) (sym more.picks) is.picked;
          kind = more.kind ∙ is.kind;
          right = more.right (part key h) is.right;
          retried = more.retried;
          counted = subst (λ n. n ≤ length (part key h)) (sym more.count) is.counted;
          exact = elim is.exact [
            | inl none ↦ inl (IsUntaken-raised (mark_in old.0.chain) (mark_in o.chain) none (more.mark (part key h) is.right))
            | inr all ↦ inr (more.count ∙ all)
          ];
        };
  }

  pub marks_raised : (x : Item) → IsRaised (mark_of (listed_known keys objects) x) (mark_of (listed_known keys raised) x)
  marks_raised = marks_zipped IsRaised raised_unasked keys objects raised long (λ i o n within o_at n_at.
      let key = element_at keys i within in
      let is = kept.each i key.0 o key.1 o_at in
      (each i o n o_at n_at).mark (part key.0 h) is.right)

pub AreKept-smaller : (kinds : Item → Kind) (budget smaller : ℕ) (h : List Event) (split : ℕ) (keys : List Item) (objects : List Object) → smaller ≤ budget → AreKept kinds budget h split keys objects
    → AreKept kinds smaller h split keys objects
AreKept-smaller kinds budget smaller h split keys objects less kept = record {
  within = kept.within;
  distinct = kept.distinct;
  known = kept.known;
  each = λ i key o key_at o_at.
      let is = kept.each i key o key_at o_at in
      record {
        picked = is.picked;
        kind = is.kind;
        right = is.right;
        retried = λ at over. let all = is.retried at over in omega (arith, less, all);
        counted = is.counted;
        exact = is.exact;
      };
}
