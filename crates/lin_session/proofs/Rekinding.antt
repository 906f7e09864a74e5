-- What is kept of the objects, where one object changes its kind.
use Rattle.std.proofs.Common.{◌≡◌, ◌≢◌, ◌≤◌, ℕ, Bool, true, false, List, length, take, slice_get, set, Contains, Some, inl, refl, sym, ap, subst, ◌∙◌, if◌then◌else◌}
use Rattle.lin_events.specs.declared.items.Item.{Item}
use Rattle.lin_events.specs.Sameness.{Decides-item_eq}
use Rattle.lin_events.specs.Items.{item_eq}
use Rattle.lin_events.specs.declared.events.Event.{Event}
use Rattle.lin_objects.specs.declared.kinds.Kind.{Kind}
use Rattle.lin_order.specs.Parts.{part, ArePositionsOf}
use Rattle.lin_chain.specs.Chains.{IsFor, IsRight, kind_in, mark_in}
use Rattle.lin_chain.specs.Work.{unasked}
use Rattle.lin_session.specs.declared.kept.Object.{Object}
use Rattle.lin_session.specs.Objects.{AreKept, IsObject, IsUntaken}
use Rattle.lin_session.proofs.Marking.{unasked_untaken}
use Rattle.lin_session.proofs.Changes.{AreKept-one, AreKept-none}

module _ (kinds other : Item → Kind) (key : Item) (kind : Kind) (change : (x : Item) → other x ≡ (if item_eq key x then kind else kinds x)) where
  kind_there : other key ≡ kind
  kind_there = change key ∙ ap (λ b. if b then kind else kinds key) ((Decides-item_eq key key).1 refl)

  kind_elsewhere : (x : Item) → x ≢ key → other x ≡ kinds x
  kind_elsewhere x apart = change x ∙ by (item_eq key x) refl
    where
      by : (b : Bool) → item_eq key x ≡ b → (if item_eq key x then kind else kinds x) ≡ kinds x
      by true e = absurd (apart (sym ((Decides-item_eq key x).0 e)))
      by false e = ap (λ b. if b then kind else kinds x) e

  stays : (budget : ℕ) (h : List Event) (split : ℕ) (x : Item) (o : Object) → x ≢ key → IsObject kinds budget h split x o → IsObject other budget h split x o
  stays budget h split x o apart is = record {
    picked = is.picked;
    kind = is.kind ∙ sym (kind_elsewhere x apart);
    right = is.right;
    counted = is.counted;
    retried = is.retried;
    exact = is.exact;
  }

  module _ (budget : ℕ) (h : List Event) (split : ℕ) (keys : List Item) (objects : List Object) (kept : AreKept kinds budget h split keys objects) where
    pub AreKept-rekinded : (i : ℕ) (old object : Object) → slice_get keys i ≡ Some key → slice_get objects i ≡ Some old → object.picks ≡ old.picks → object.count ≡ old.count
        → mark_in object.chain ≡ unasked → kind_in object.chain ≡ kind → ((part' : List Event) → IsRight object.chain part') → ((least : ℕ) → IsFor least object.chain) → AreKept other budget h split keys (set objects i object)
    AreKept-rekinded i old object key_at old_at picks count mark kind_is right retried =
        AreKept-one kinds other budget budget h h split split keys objects kept kept.within i key object key_at kept.known old old_at (λ is. record {
          picked = subst (λ p. ArePositionsOf key (take split h) p.items) (sym picks) is.picked;
          kind = kind_is ∙ sym kind_there;
          right = right (part key h);
          counted = subst (λ n. n ≤ length (part key h)) (sym count) is.counted;
          retried = retried budget;
          exact = inl (subst IsUntaken (sym mark) unasked_untaken);
        }) (stays budget h split)

    pub AreKept-rekinded_unlisted : (Contains keys key → ⊥) → AreKept other budget h split keys objects
    AreKept-rekinded_unlisted absent =
        AreKept-none kinds other budget budget h h split split keys objects kept kept.within kept.known (λ x o listed. stays budget h split x o (λ is. absent (subst (Contains keys) is listed)))
