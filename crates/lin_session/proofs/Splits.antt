-- What is kept of the objects, where one event less or one more is told apart.
use Rattle.std.proofs.Common.{◌≡◌, ◌≢◌, ◌<◌, ◌≤◌, ◌+◌, ◌-◌, ◌⊎◌, inl, inr, ℕ, suc, List, [], ◌∷◌, ◌++◌, length, slice_get, set, take, AllPairs, Contains, Some, refl, sym, ap, subst, ◌∙◌, arith, add-one}
use Rattle.std.proofs.lemmas.Bool.{cases_order}
use Rattle.std.proofs.lemmas.List.Elements.{Contains-push, Contains-append_left}
use Rattle.std.proofs.lemmas.Option.{same_Some, slice_get_within}
use Rattle.lin_events.specs.declared.items.Item.{Item}
use Rattle.lin_events.specs.declared.events.Event.{Event}
use Rattle.lin_events.specs.Operations.{IsEvent}
use Rattle.lin_objects.specs.declared.kinds.Kind.{Kind}
use Rattle.lin_order.specs.Parts.{ArePositionsOf, part}
use Rattle.lin_order.specs.PartLaws.{PartsOfPrefixes, PartsGrow}
use Rattle.lin_chain.specs.Chains.{IsFor, IsRight, kind_in, mark_in}
use Rattle.lin_chain.specs.Work.{unasked}
use Rattle.lin_session.specs.declared.kept.Object.{Object}
use Rattle.lin_session.specs.Objects.{AreKept, IsObject, IsUntaken}
use Rattle.lin_session.proofs.Marking.{unasked_untaken}
use Rattle.lin_lists.specs.lemmas.Lists.{get_taken}
use Rattle.lin_session.proofs.Changes.{AreKept-one, AreKept-more}
use Rattle.lin_session.proofs.Picks.{event_of_key, picks_less, picks_stay, picks_more, picks_same}

-- the picks change alone
picked_anew : (kinds : Item → Kind) (budget : ℕ) (h : List Event) (split later : ℕ) (key : Item) (old object : Object) → object.count ≡ old.count → object.chain ≡ old.chain
    → IsObject kinds budget h split key old → ArePositionsOf key (take later h) object.picks.items → IsObject kinds budget h later key object
picked_anew kinds budget h split later key old object count chain is picked = record {
  picked = picked;
  kind = ap kind_in chain ∙ is.kind;
  right = subst (λ k. IsRight k (part key h)) (sym chain) is.right;
  counted = subst (λ n. n ≤ length (part key h)) (sym count) is.counted;
  retried = subst (IsFor budget) (sym chain) is.retried;
  exact = subst (λ k. IsUntaken (mark_in k) ⊎ (object.count ≡ length (part key h))) (sym chain) (subst (λ n. IsUntaken (mark_in old.chain) ⊎ (n ≡ length (part key h))) (sym count) is.exact);
}

module _ (kinds : Item → Kind) (budget : ℕ) (h : List Event) (last : ℕ) (event : Event) (stands : IsEvent h last event) (keys : List Item) (objects : List Object) where
  module _ (law : PartsOfPrefixes) (kept : AreKept kinds budget h (suc last) keys objects) where
    known_less : (at : ℕ) (e : Event) → at < last → IsEvent h at e → Contains keys e.key
    known_less at e below there = kept.known at e (omega arith) there

    other_less : (x : Item) (o : Object) → x ≢ event.key → IsObject kinds budget h (suc last) x o → IsObject kinds budget h last x o
    other_less x o other is = picked_anew kinds budget h (suc last) last x o o refl refl is (picks_stay h x last event stands o.picks.items is.picked law (λ same. other (sym same)))

    within_less : last ≤ length h
    within_less = omega (arith, kept.within)

    pub AreKept-less : (i : ℕ) (old object : Object) → slice_get keys i ≡ Some event.key → slice_get objects i ≡ Some old
        → object.picks.items ≡ take (length old.picks.items - 1) old.picks.items → object.count ≡ old.count → object.chain ≡ old.chain
        → AreKept kinds budget h last keys (set objects i object)
    AreKept-less i old object key_at old_at picks count chain =
        AreKept-one kinds kinds budget budget h h (suc last) last keys objects kept within_less i event.key object key_at known_less old old_at (λ is.
        picked_anew kinds budget h (suc last) last event.key old object count chain is
        (subst (ArePositionsOf event.key (take last h)) (sym picks) (picks_less h event.key last event stands old.picks.items is.picked law refl))) other_less

    pub AreKept-less_unlisted : (Contains keys event.key → ⊥) → AreKept kinds budget h last keys objects
    AreKept-less_unlisted absent = absurd (absent (kept.known last event (omega arith) stands))

  module _ (law : PartsGrow) (kept : AreKept kinds budget h last keys objects) where
    other_more : (x : Item) (o : Object) → x ≢ event.key → IsObject kinds budget h last x o → IsObject kinds budget h (suc last) x o
    other_more x o other is = picked_anew kinds budget h last (suc last) x o o refl refl is (picks_same law h x last event stands o.picks.items is.picked (λ same. other (sym same)))

    within_more : suc last ≤ length h
    within_more = slice_get_within h last event stands

    pub known_more : (keys' : List Item) → ((x : Item) → Contains keys x → Contains keys' x) → Contains keys' event.key → (at : ℕ) (e : Event) → at < suc last → IsEvent h at e → Contains keys' e.key
    known_more keys' stays new at e below there = elim (cases_order at last) [
      | inl equal ↦ subst (λ (x : Event). Contains keys' x.key) (same_Some _ _ (sym stands ∙ ap (slice_get h) (sym equal) ∙ there)) new
      | inr rest ↦ elim rest [
        | inl before ↦ stays e.key (kept.known at e before there)
        | inr after ↦ absurd (omega arith)
      ]
    ]

    pub AreKept-next : (i : ℕ) (old object : Object) → slice_get keys i ≡ Some event.key → Contains keys event.key → slice_get objects i ≡ Some old
        → object.picks.items ≡ old.picks.items ++ last ∷ [] → object.count ≡ old.count → object.chain ≡ old.chain
        → AreKept kinds budget h (suc last) keys (set objects i object)
    AreKept-next i old object key_at listed old_at picks count chain =
        AreKept-one kinds kinds budget budget h h last (suc last) keys objects kept within_more i event.key object key_at (known_more keys (λ x there. there) listed) old old_at (λ is.
        picked_anew kinds budget h last (suc last) event.key old object count chain is
        (subst (ArePositionsOf event.key (take (suc last) h)) (sym picks) (picks_more law h event.key last event stands old.picks.items is.picked refl))) other_more

    -- none of the events told apart so far is of a key that isn't listed
    none_picked : (Contains keys event.key → ⊥) → ArePositionsOf event.key (take last h) []
    none_picked absent = record {
      rising = λ i j d before within. absurd (omega arith);
      sound = λ k d within. absurd (omega arith);
      complete = λ at of_it.
          let e = event_of_key (take last h) event.key at of_it in
          let g = get_taken last h at e.0 e.1 in
          absurd (absent (subst (Contains keys) e.2 (kept.known at e.0 g.0 g.1)));
    }

    pub AreKept-added : (object : Object) → length objects ≡ length keys → AllPairs (λ x y. x ≢ y) (keys ++ event.key ∷ []) → (Contains keys event.key → ⊥)
        → object.picks.items ≡ last ∷ [] → object.count ≡ 0 → mark_in object.chain ≡ unasked → kind_in object.chain ≡ kinds event.key → ((part' : List Event) → IsRight object.chain part')
        → ((least : ℕ) → IsFor least object.chain) → AreKept kinds budget h (suc last) (keys ++ event.key ∷ []) (objects ++ object ∷ [])
    AreKept-added object aligned distinct absent picks count mark kind right retried =
        AreKept-more kinds kinds budget budget h h last (suc last) keys objects kept within_more event.key object aligned distinct
        (known_more (keys ++ event.key ∷ []) (λ x there. Contains-append_left keys (event.key ∷ []) x there) (Contains-push keys event.key))
        (record {
          picked = subst (ArePositionsOf event.key (take (suc last) h)) (sym picks) (picks_more law h event.key last event stands [] (none_picked absent) refl);
          kind = kind;
          right = right (part event.key h);
          counted = omega (arith, count);
          retried = retried budget;
          exact = inl (subst IsUntaken (sym mark) unasked_untaken);
        }) other_more absent

-- a refused pick leaves what is kept
pub AreKept-refused : (kinds : Item → Kind) (budget : ℕ) (h : List Event) (split : ℕ) (keys : List Item) (objects : List Object) → AreKept kinds budget h split keys objects
    → (i : ℕ) (key : Item) (old object : Object) → slice_get keys i ≡ Some key → slice_get objects i ≡ Some old
    → object.picks.items ≡ old.picks.items → object.count ≡ old.count → object.chain ≡ old.chain → AreKept kinds budget h split keys (set objects i object)
AreKept-refused kinds budget h split keys objects kept i key old object key_at old_at picks count chain =
    AreKept-one kinds kinds budget budget h h split split keys objects kept kept.within i key object key_at kept.known old old_at (λ is.
    picked_anew kinds budget h split split key old object count chain is (subst (ArePositionsOf key (take split h)) (sym picks) is.picked)) (λ x o other is. is)

-- the same, of the lists as they are found
pub AreKept-listed : (law : PartsGrow) (kinds : Item → Kind) (budget : ℕ) (h : List Event) (last later : ℕ) (event : Event) (key : Item) (keys keys' : List Item) (objects objects' : List Object) (object : Object)
    → IsEvent h last event → event.key ≡ key → AreKept kinds budget h last keys objects → later ≡ last + 1 → keys' ≡ keys ++ key ∷ [] → objects' ≡ objects ++ object ∷ []
    → length objects ≡ length keys → AllPairs (λ x y. x ≢ y) keys' → (Contains keys key → ⊥) → object.picks.items ≡ last ∷ [] → object.count ≡ 0 → mark_in object.chain ≡ unasked → kind_in object.chain ≡ kinds key
    → ((part' : List Event) → IsRight object.chain part') → ((least : ℕ) → IsFor least object.chain) → AreKept kinds budget h later keys' objects'
AreKept-listed law kinds budget h last later event key keys keys' objects objects' object stands same kept one listed added aligned distinct absent picks count mark kind right retried =
    let keys_are : keys' ≡ keys ++ event.key ∷ [] = listed ∙ ap (λ k. keys ++ k ∷ []) (sym same) in
    subst (λ n. AreKept kinds budget h n keys' objects') (sym (one ∙ add-one last))
    (subst (λ k. AreKept kinds budget h (suc last) k objects') (sym keys_are)
    (subst (AreKept kinds budget h (suc last) (keys ++ event.key ∷ [])) (sym added)
    (AreKept-added kinds budget h last event stands keys objects law kept object aligned (subst (AllPairs (λ x y. x ≢ y)) keys_are distinct) (λ there. absent (subst (Contains keys) same there)) picks count mark
    (kind ∙ ap kinds (sym same)) right retried)))
