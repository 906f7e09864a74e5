-- The reads that are ok, with one more event and with one fewer.
use Rattle.std.proofs.Common.{◌≡◌, ◌≢◌, ◌<◌, ◌-◌, ◌∷◌, ◌++◌, [], ℕ, List, AllPairs, Contains, take, length, get_or, inl, inr, refl, sym, subst, ◌∙◌, arith}
use Rattle.std.proofs.lemmas.List.Elements.{Contains-append_left, Contains-get_or, Contains-push, Contains-push_cases}
use Rattle.std.proofs.lemmas.List.Quantifiers.{all_pairs_push}
use Rattle.lin_events.specs.declared.items.Item.{Item}
use Rattle.lin_events.specs.declared.calls.Call.TheVariants.{Read}
use Rattle.lin_events.specs.declared.calls.Name.{Name}
use Rattle.lin_events.specs.declared.calls.Reply.{Reply}
use Rattle.lin_events.specs.declared.calls.Reply.TheVariants as Replied
use Rattle.lin_events.specs.declared.events.Event.{Event}
use Rattle.lin_events.specs.declared.events.Body.TheVariants.{Ok}
use Rattle.lin_events.specs.lemmas.OneMore.{end_inside}
use Rattle.lin_lists.specs.lemmas.Elements.{pairs_last, pairs_left}
use Rattle.lin_order.specs.lemmas.OneEnd.{one_end}
use Rattle.lin_sets.specs.Acts.{AreActs}
use Rattle.lin_sets.specs.Parts.{AreReads, IsEarlier, IsFound}
use Rattle.lin_sets.specs.Steps.{ReturnsNext}
use Rattle.lin_sets.specs.declared.intervals.Intervals.{Intervals}
use Rattle.lin_sets.specs.Intervals.{AreAll}
use Rattle.lin_sets.proofs.Forgetting.{last_is}
use Rattle.lin_sets.proofs.OneEvent.{found_cases, found_kept, new_ok}
use Rattle.lin_sets.proofs.Undoing.{found_early, found_upto, returns_now}

-- what holds of two elements of a pair
pairs_weaker : {A : Type 0} (R Q : A → A → Type 0) (xs : List A) → AllPairs R xs → ((x y : A) → Contains xs x → Contains xs y → R x y → Q x y) → AllPairs Q xs
pairs_weaker R Q xs pairs weaker i j d lower within =
    weaker (get_or xs i d) (get_or xs j d) (Contains-get_or xs i d (omega (arith, lower, within))) (Contains-get_or xs j d within) (pairs i j d lower within)

-- a read returns once
found_once : (h : List Event) (at end again : ℕ) (s t : List Item) → IsFound h at end s → IsFound h at again t → end ≡ again
found_once h at end again s t found other = one_end h at end again found.1.0 other.1.0 found.1.1 other.1.1

found_inside : (h : List Event) (at end : ℕ) (s : List Item) → IsFound h at end s → end < length h
found_inside h at end s found = end_inside h at end found.1.0 found.1.1

-- those are the acts of the events
pub acts_are : (intervals : Intervals) (h : List Event) → AreAll intervals h → AreActs intervals.adds.items intervals.reads.items h
acts_are intervals h all = record {
  add = λ at item. (
    λ stands. all.adds.stand at item stands,
    λ is. elim (all.adds.listed at item is.0) [
      | inl stands ↦ stands
      | inr failed ↦ absurd (is.1 failed)
    ],
  );
  read = λ at s. (
    λ there. let found = all.reads.each at s there in (found.1.0, (found.0, found.1.1)),
    λ is. all.reads.all at is.1.0 s (is.0, is.1.1),
  );
  once = pairs_weaker (IsEarlier h) (λ q r. q.0 ≢ r.0) intervals.reads.items all.reads.rising (λ q r _ _ earlier same.
      let one = found_once h r.0 earlier.0 earlier.1 q.1 r.1 (subst (λ k. IsFound h k earlier.0 q.1) same earlier.2) earlier.3 in
      let no : ⊥ = omega (arith, one, earlier.4) in
      no);
}

module _ (h : List Event) (event : Event) where
  earlier_kept : (q r : ℕ × List Item) → IsEarlier h q r → IsEarlier (h ++ event ∷ []) q r
  earlier_kept q r earlier = (earlier.0, earlier.1, found_kept h event q.0 earlier.0 q.1 earlier.2, found_kept h event r.0 earlier.1 r.1 earlier.3, earlier.4)

  pub no_read_now : ((name : Name) (reply : Reply) → event.body ≡ Ok name reply → ⊥) → (at : ℕ) (s : List Item) → ReturnsNext h event at Read (Replied.Members s) → ⊥
  no_read_now no_ok at s returns = no_ok returns.1.0 (Replied.Members s) returns.1.1

  -- where no read returns with the event
  module _ (none : (at : ℕ) (s : List Item) → ReturnsNext h event at Read (Replied.Members s) → ⊥) where
    early : (at end : ℕ) (s : List Item) → IsFound (h ++ event ∷ []) at end s → IsFound h at end s
    early at end s found = elim (found_upto h event at end s found) [
      | inl before ↦ found_early h event at end s before found
      | inr now ↦ absurd (none at s (returns_now h event at end s now found))
    ]

    pub reads_same : (reads : List (ℕ × List Item)) → AreReads reads h → AreReads reads (h ++ event ∷ [])
    reads_same reads are = record {
      each = λ at s there. let found = are.each at s there in (found.0, found_kept h event at found.0 s found.1);
      all = λ at end s found. are.all at end s (early at end s found);
      rising = pairs_weaker (IsEarlier h) (IsEarlier (h ++ event ∷ [])) reads are.rising (λ q r _ _ earlier. earlier_kept q r earlier);
    }

    pub reads_undone : (reads : List (ℕ × List Item)) → AreReads reads (h ++ event ∷ []) → AreReads reads h
    reads_undone reads are = record {
      each = λ at s there. let found = are.each at s there in (found.0, early at found.0 s found.1);
      all = λ at end s found. are.all at end s (found_kept h event at end s found);
      rising = pairs_weaker (IsEarlier (h ++ event ∷ [])) (IsEarlier h) reads are.rising (λ q r _ _ earlier.
          (earlier.0, earlier.1, early q.0 earlier.0 q.1 earlier.2, early r.0 earlier.1 r.1 earlier.3, earlier.4));
    }

  -- where one does
  module _ (p : ℕ) (s : List Item) (returns : ReturnsNext h event p Read (Replied.Members s)) where
    now : IsFound (h ++ event ∷ []) p (length h) s
    now = (returns.0.called, new_ok h event p Read (Replied.Members s) returns)

    one_set : {a b : List Item} → Replied.Members a ≡ Replied.Members b → a ≡ b
    one_set e = cc

    pub reads_more : (reads : List (ℕ × List Item)) → AreReads reads h → AreReads (reads ++ (p, s) ∷ []) (h ++ event ∷ [])
    reads_more reads are = record {
      each = λ at t there. elim (Contains-push_cases reads (p, s) (at, t) there) [
        | inl before ↦ let found = are.each at t before in (found.0, found_kept h event at found.0 t found.1)
        | inr same ↦ (length h, subst (λ (q : ℕ × List Item). IsFound (h ++ event ∷ []) q.0 (length h) q.1) same now)
      ];
      all = λ at end t found. elim (found_cases h event p Read (Replied.Members s) returns at end t found) [
        | inl before ↦ Contains-append_left reads ((p, s) ∷ []) (at, t) (are.all at end t before)
        | inr new ↦
            subst (λ k. Contains (reads ++ (p, s) ∷ []) (k, t)) (sym new.0) (subst (λ l. Contains (reads ++ (p, s) ∷ []) (p, l)) (one_set new.3) (Contains-push reads (p, s)))
      ];
      rising = all_pairs_push (IsEarlier (h ++ event ∷ [])) reads (p, s)
          (pairs_weaker (IsEarlier h) (IsEarlier (h ++ event ∷ [])) reads are.rising (λ q r _ _ earlier. earlier_kept q r earlier))
          (λ k d inside.
          let q = get_or reads k d in
          let found = are.each q.0 q.1 (Contains-get_or reads k d inside) in
          (found.0, length h, found_kept h event q.0 found.0 q.1 found.1, now, found_inside h q.0 found.0 q.1 found.1));
    }

    -- the last one of the reads is this one
    module _ (reads : List (ℕ × List Item)) (last : ℕ × List Item) (are : AreReads (reads ++ last ∷ []) (h ++ event ∷ [])) where
      ahead : (at : ℕ) (t : List Item) → Contains reads (at, t) → (end : ℕ) → IsFound (h ++ event ∷ []) at end t → end < length h
      ahead at t there end found =
          let earlier = pairs_last (IsEarlier (h ++ event ∷ [])) reads last (at, t) are.rising there in
          let same = found_once (h ++ event ∷ []) at end earlier.0 t t found earlier.2 in
          elim (found_upto h event last.0 earlier.1 last.1 earlier.3) [
            | inl before ↦ omega (arith, same, before, earlier.4)
            | inr at_end ↦ omega (arith, same, at_end, earlier.4)
          ]

      last_now : ◌≡◌ {A = ℕ × List Item} last (p, s)
      last_now = elim (Contains-push_cases reads last (p, s) (are.all p (length h) s now)) [
        | inl there ↦ let before = ahead p s there (length h) now in let no : ⊥ = omega (arith, before) in absurd no
        | inr same ↦ same
      ]

      reads_left : AreReads reads h
      reads_left = record {
        each = λ at t there.
            let found = are.each at t (Contains-append_left reads (last ∷ []) (at, t) there) in
            (found.0, found_early h event at found.0 t (ahead at t there found.0 found.1) found.1);
        all = λ at end t found. elim (Contains-push_cases reads last (at, t) (are.all at end t (found_kept h event at end t found))) [
          | inl there ↦ there
          | inr same ↦
              let it : ◌≡◌ {A = ℕ × List Item} (p, s) (at, t) = sym last_now ∙ same in
              let again = subst (λ (q : ℕ × List Item). IsFound (h ++ event ∷ []) q.0 (length h) q.1) it now in
              let one = found_once (h ++ event ∷ []) at end (length h) t t (found_kept h event at end t found) again in
              let inside = found_inside h at end t found in
              let no : ⊥ = omega (arith, one, inside) in
              absurd no
        ];
        rising = pairs_weaker (IsEarlier (h ++ event ∷ [])) (IsEarlier h) reads (pairs_left (IsEarlier (h ++ event ∷ [])) reads (last ∷ []) are.rising) (λ q r at_q at_r earlier. (
          earlier.0,
          earlier.1,
          found_early h event q.0 earlier.0 q.1 (ahead q.0 q.1 at_q earlier.0 earlier.2) earlier.2,
          found_early h event r.0 earlier.1 r.1 (ahead r.0 r.1 at_r earlier.1 earlier.3) earlier.3,
          earlier.4,
        ));
      }

    pub reads_fewer : (reads new : List (ℕ × List Item)) → new ≡ take (length reads - 1) reads → AreReads reads (h ++ event ∷ []) → AreReads new h
    reads_fewer reads new is are =
        let there = are.all p (length h) s now in
        let split = last_is reads (length reads) (p, s) refl (λ none. let no : ⊥ = omega (arith, none, there.1) in no) in
        subst (λ l. AreReads l h) (sym is) (reads_left (take (length reads - 1) reads) (get_or reads (length reads - 1) (p, s)) (subst (λ l. AreReads l (h ++ event ∷ [])) split are))
