-- What is kept of the objects, around an event that leaves or comes.
use Rattle.std.proofs.Common.{◌≡◌, ◌≢◌, ◌<◌, ◌≤◌, ◌+◌, ◌-◌, ◌⊎◌, ℕ, Bool, true, false, cond, List, ◌∷◌, ◌++◌, length, length-append, slice_get, set, take, Contains, Some, inl, inr, refl, sym, ap, subst, ◌∙◌, arith}
use Rattle.std.specs.Prelude.{not}
use Rattle.std.proofs.lemmas.List.Elements.{filter-append}
use Rattle.std.proofs.lemmas.List.Filters.{length-filter_both}
use Rattle.lin_events.specs.declared.items.Item.{Item}
use Rattle.lin_events.specs.Sameness.{Decides-item_eq}
use Rattle.lin_events.specs.Items.{item_eq}
use Rattle.lin_events.specs.declared.events.Event.{Event}
use Rattle.lin_events.specs.Operations.{IsEvent}
use Rattle.lin_objects.specs.declared.kinds.Kind.{Kind}
use Rattle.lin_order.specs.Parts.{ArePositionsOf, part}
use Rattle.lin_chain.specs.declared.chain.Chain.{Chain}
use Rattle.lin_chain.specs.Chains.{IsFor, IsMarkBefore, IsRight, kind_in, mark_in}
use Rattle.lin_session.specs.declared.kept.Object.{Object}
use Rattle.lin_session.specs.Objects.{AreKept, IsObject, IsUntaken}
use Rattle.lin_lists.specs.lemmas.Taken.{get_ahead, take_ahead}
use Rattle.lin_session.proofs.Changes.{AreKept-one, AreKept-none}
use Rattle.lin_session.proofs.Marking.{IsUntaken-before}

pub part-more : (key : Item) (event : Event) (h : List Event) → event.key ≡ key → part key (event ∷ h) ≡ event ∷ part key h
part-more key event h same = ap (λ b. cond b (event ∷ part key h) (part key h)) ((Decides-item_eq event.key key).1 same)

pub part-same : (key : Item) (event : Event) (h : List Event) → event.key ≢ key → part key (event ∷ h) ≡ part key h
part-same key event h other = by (item_eq event.key key) refl
  where
    by : (b : Bool) → item_eq event.key key ≡ b → part key (event ∷ h) ≡ part key h
    by true e = absurd (other ((Decides-item_eq event.key key).0 e))
    by false e = ap (λ b. cond b (event ∷ part key h) (part key h)) e

pub part_few : (key : Item) (h : List Event) → length (part key h) ≤ length h
part_few key h = omega (arith, length-filter_both (λ (e : Event). item_eq e.key key) (λ e. not (item_eq e.key key)) (λ e. refl) h)

-- an object whose part and picks stay
pub IsObject-same : (kinds : Item → Kind) (budget : ℕ) (h edited : List Event) (split : ℕ) (x : Item) (o : Object) → take split h ≡ take split edited → part x h ≡ part x edited
    → IsObject kinds budget h split x o → IsObject kinds budget edited split x o
IsObject-same kinds budget h edited split x o front same is = record {
  picked = subst (λ l. ArePositionsOf x l o.picks.items) front is.picked;
  kind = is.kind;
  right = subst (IsRight o.chain) same is.right;
  retried = is.retried;
  counted = subst (λ l. o.count ≤ length l) same is.counted;
  exact = subst (λ l. IsUntaken (mark_in o.chain) ⊎ (o.count ≡ length l)) same is.exact;
}

-- what a chain that was cut ahead of some events is right for
abbrev pub StaysAhead : Item → List Event → ℕ → Chain → Chain → Type 0
StaysAhead key behind count old new = (ahead h edited : List Event) → count ≤ length ahead + length (part key behind) → IsRight old (ahead ++ h) → IsRight new (ahead ++ edited)

-- what else is true of one that was cut
pub record IsCutChain (place : ℕ) (old new : Chain) : Type 0 where
  pub kind : kind_in new ≡ kind_in old
  pub mark : (h : List Event) → IsRight old h → IsMarkBefore place (mark_in old) (mark_in new)
  pub retried : (budget : ℕ) → IsFor budget old → IsFor budget new

module _ (kinds : Item → Kind) (budget : ℕ) (before behind : List Event) (event : Event) (key : Item) (same : event.key ≡ key) (split : ℕ) (ahead : split ≤ length before) (keys : List Item) (objects : List Object) where
  abbrev with_it : List Event
  with_it = before ++ event ∷ behind

  abbrev without : List Event
  without = before ++ behind

  within_without : split ≤ length without
  within_without = omega (arith, length-append before behind)

  within_with : split ≤ length with_it
  within_with = omega (arith, length-append before (event ∷ behind))

  others_part : (x : Item) → x ≢ key → part x with_it ≡ part x without
  others_part x other =
      filter-append (λ (e : Event). item_eq e.key x) before (event ∷ behind)
      ∙ ap (λ l. part x before ++ l) (part-same x event behind (λ is. other (sym is ∙ same)))
      ∙ sym (filter-append (λ (e : Event). item_eq e.key x) before behind)

  own_with : part key with_it ≡ part key before ++ event ∷ part key behind
  own_with = filter-append (λ (e : Event). item_eq e.key key) before (event ∷ behind) ∙ ap (λ l. part key before ++ l) (part-more key event behind same)

  own_without : part key without ≡ part key before ++ part key behind
  own_without = filter-append (λ (e : Event). item_eq e.key key) before behind

  known_without : AreKept kinds budget with_it split keys objects → (at : ℕ) (e : Event) → at < split → IsEvent without at e → Contains keys e.key
  known_without kept at e below stands = kept.known at e below (get_ahead before (event ∷ behind) behind at (omega arith) ∙ stands)

  known_with : AreKept kinds budget without split keys objects → (at : ℕ) (e : Event) → at < split → IsEvent with_it at e → Contains keys e.key
  known_with kept at e below stands = kept.known at e below (get_ahead before behind (event ∷ behind) at (omega arith) ∙ stands)

  other_without : (x : Item) (o : Object) → x ≢ key → IsObject kinds budget with_it split x o → IsObject kinds budget without split x o
  other_without x o other = IsObject-same kinds budget with_it without split x o (take_ahead split before (event ∷ behind) behind ahead) (others_part x other)

  other_with : (x : Item) (o : Object) → x ≢ key → IsObject kinds budget without split x o → IsObject kinds budget with_it split x o
  other_with x o other = IsObject-same kinds budget without with_it split x o (take_ahead split before behind (event ∷ behind) ahead) (sym (others_part x other))

  -- the number of the events of the key, with the event and without it
  pub one_with : length (part key with_it) ≡ length (part key without) + 1
  one_with = omega (arith, ap length own_with, length-append (part key before) (event ∷ part key behind), ap length own_without, length-append (part key before) (part key behind))

  -- the event leaves
  pub AreKept-without : AreKept kinds budget with_it split keys objects → (i : ℕ) (old object : Object) → slice_get keys i ≡ Some key → slice_get objects i ≡ Some old
      → object.picks ≡ old.picks → object.count ≡ old.count - 1 → StaysAhead key behind (old.count - 1) old.chain object.chain → (place : ℕ) → IsCutChain place old.chain object.chain
      → AreKept kinds budget without split keys (set objects i object)
  AreKept-without kept i old object key_at old_at picks count stays place cut =
      AreKept-one kinds kinds budget budget with_it without split split keys objects kept within_without i key object key_at (known_without kept) old old_at (λ is.
      record {
        picked = subst (λ p. ArePositionsOf key (take split without) p.items) (sym picks)
            (subst (λ l. ArePositionsOf key l old.picks.items) (take_ahead split before (event ∷ behind) behind ahead) is.picked);
        kind = cut.kind ∙ is.kind;
        right = subst (IsRight object.chain) (sym own_without) (stays (part key before) (event ∷ part key behind) (part key behind) (omega (arith, is.counted, ap length own_with, length-append (part key before) (event ∷ part key behind))) (subst (IsRight old.chain) own_with is.right));
        retried = cut.retried budget is.retried;
        counted = omega (arith, is.counted, count, one_with);
        exact = elim is.exact [
          | inl untaken ↦ inl (IsUntaken-before place (mark_in old.chain) (mark_in object.chain) untaken (cut.mark (part key with_it) is.right))
          | inr all ↦ inr (omega (arith, all, count, one_with))
        ];
      }) other_without

  pub AreKept-without_unlisted : AreKept kinds budget with_it split keys objects → (Contains keys key → ⊥) → AreKept kinds budget without split keys objects
  AreKept-without_unlisted kept absent =
      AreKept-none kinds kinds budget budget with_it without split split keys objects kept within_without (known_without kept) (λ x o listed. other_without x o (λ is. absent (subst (Contains keys) is listed)))

  -- the event comes
  pub AreKept-with : AreKept kinds budget without split keys objects → (i : ℕ) (old object : Object) → slice_get keys i ≡ Some key → slice_get objects i ≡ Some old
      → object.picks ≡ old.picks → object.count ≡ old.count + 1 → StaysAhead key behind old.count old.chain object.chain → (place : ℕ) → IsCutChain place old.chain object.chain
      → AreKept kinds budget with_it split keys (set objects i object)
  AreKept-with kept i old object key_at old_at picks count stays place cut =
      AreKept-one kinds kinds budget budget without with_it split split keys objects kept within_with i key object key_at (known_with kept) old old_at (λ is. record {
        picked = subst (λ p. ArePositionsOf key (take split with_it) p.items) (sym picks)
            (subst (λ l. ArePositionsOf key l old.picks.items) (take_ahead split before behind (event ∷ behind) ahead) is.picked);
        kind = cut.kind ∙ is.kind;
        right = subst (IsRight object.chain) (sym own_with) (stays (part key before) (part key behind) (event ∷ part key behind) (omega (arith, is.counted, ap length own_without, length-append (part key before) (part key behind))) (subst (IsRight old.chain) own_without is.right));
        retried = cut.retried budget is.retried;
        counted = omega (arith, is.counted, count, one_with);
        exact = elim is.exact [
          | inl untaken ↦ inl (IsUntaken-before place (mark_in old.chain) (mark_in object.chain) untaken (cut.mark (part key without) is.right))
          | inr all ↦ inr (omega (arith, all, count, one_with))
        ];
      }) other_with

  pub AreKept-with_unlisted : AreKept kinds budget without split keys objects → (Contains keys key → ⊥) → AreKept kinds budget with_it split keys objects
  AreKept-with_unlisted kept absent =
      AreKept-none kinds kinds budget budget without with_it split split keys objects kept within_with (known_with kept) (λ x o listed. other_with x o (λ is. absent (subst (Contains keys) is listed)))
