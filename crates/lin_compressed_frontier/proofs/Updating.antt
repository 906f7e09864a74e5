-- Open updates that are placed in turn, of crashed ones that have the same call the first alone.
use Rattle.std.proofs.Common.{◌≡◌, ℕ, ◌+◌, ◌<◌, ◌≤◌, Bool, List, [], ◌∷◌, ◌++◌, length, Contains, IsTrue, inl, inr, refl, sym, ap, subst, ◌∙◌, arith, get_or, take}
use Rattle.std.proofs.lemmas.List.Elements.{Contains-push, Contains-push_cases, Contains-append_left}
use Rattle.lin_events.specs.declared.calls.Call.{Call}
use Rattle.lin_events.specs.declared.calls.Reply.{Reply}
use Rattle.lin_order.specs.declared.placed.Placed.{Placed}
use Rattle.lin_frontier.specs.declared.pending.Open.{Open}
use Rattle.lin_frontier.specs.Placing.{IsAbsent, IsTried, insert_pair}
use Rattle.lin_members.specs.Searching.{AreUpdates, IsPlacedLike, PlacesIfUpdate, StandsFor}
use Rattle.lin_frontier.specs.lemmas.Trying.{take_all, take_next}

-- what stands for one that stands for the operation
stands_through : (t s o : Open) → StandsFor t s → IsTrue s.crashed → IsTrue o.crashed → s.call ≡ o.call → StandsFor t o
stands_through t s o stands crashed other_crashed same = elim stands [
  | inl is ↦ inr (subst (λ (q : Open). IsTrue q.crashed) (sym is) crashed, other_crashed, ap (λ (q : Open). q.call) is ∙ same)
  | inr both ↦ inr (both.0, other_crashed, both.2 ∙ same)
]

module _ {S : Type 0} (step : S → Call → S → Reply → Type 0) (observes : Call → Bool) (c : S × List (ℕ × Reply)) where
  pub updates_none : (xs : List Open) (out : List ((S × List (ℕ × Reply)) × Placed)) → xs ≡ [] → out ≡ [] → AreUpdates step observes xs c out
  updates_none xs out none empty = record {
    sound = λ d p there. absurd (let there' = subst (λ l. Contains l (d, p)) empty there in let inside = there'.1 in omega arith);
    complete = λ o p d there. absurd (let there' = subst (λ l. Contains l o) none there in let inside = there'.1 in omega arith);
  }

  among_more : (xs : List Open) (o q : Open) (reply : Reply) (state : S) (out now : List ((S × List (ℕ × Reply)) × Placed)) → ((x : (S × List (ℕ × Reply)) × Placed) → Contains out x → Contains now x)
      → IsPlacedLike xs c q reply state out → IsPlacedLike (xs ++ o ∷ []) c q reply state now
  among_more xs o q reply state out now kept k =
      record { placed = k.placed; among = Contains-append_left xs (o ∷ []) k.placed k.among; stands = k.stands; absent = k.absent; has = kept _ k.has }

  -- one more is placed
  pub updates_push : (xs : List Open) (o : Open) (out now : List ((S × List (ℕ × Reply)) × Placed)) → IsTried (PlacesIfUpdate step observes o c) out now → AreUpdates step observes xs c out
      → AreUpdates step observes (xs ++ o ∷ []) c now
  updates_push xs o out now one all = record {
    sound = λ d p there. elim (one.sound (d, p) there) [
      | inl old ↦ let s = all.sound d p old in (s.0, Contains-append_left xs (o ∷ []) s.0 s.1, s.2)
      | inr new ↦ (o, Contains-push xs o, new)
    ];
    complete = λ q p d there places. elim (Contains-push_cases xs o q there) [
      | inl old ↦ among_more xs o q p.reply d.0 out now one.kept (all.complete q p d old places)
      | inr same ↦ this q p d same places
    ];
  }
    where
      this : (q : Open) (p : Placed) (d : S × List (ℕ × Reply)) → o ≡ q → PlacesIfUpdate step observes q c p d → IsPlacedLike (xs ++ o ∷ []) c q p.reply d.0 now
      this q p d same places = record {
        placed = o;
        among = Contains-push xs o;
        stands = inl same;
        absent = own.1.absent;
        has = subst (λ at. Contains now ((d.0, insert_pair o.process p.reply c.1), record { at = at; reply = p.reply })) own.1.at
            (subst (λ l. Contains now ((d.0, l), p)) own.1.placed (one.complete p d own));
      }
        where
          own : PlacesIfUpdate step observes o c p d
          own = subst (λ (k : Open). PlacesIfUpdate step observes k c p d) (sym same) places

  -- one more is not, where one like it waits
  pub updates_skip : (xs : List Open) (o : Open) (out : List ((S × List (ℕ × Reply)) × Placed)) → IsTrue o.crashed → (t : Open) → Contains xs t → IsTrue t.crashed → t.call ≡ o.call → IsAbsent t.process c.1
      → AreUpdates step observes xs c out → AreUpdates step observes (xs ++ o ∷ []) c out
  updates_skip xs o out crashed t there t_crashed call absent all = record {
    sound = λ d p in_out. let s = all.sound d p in_out in (s.0, Contains-append_left xs (o ∷ []) s.0 s.1, s.2);
    complete = λ q p d in_more places. elim (Contains-push_cases xs o q in_more) [
      | inl old ↦ among_more xs o q p.reply d.0 out out (λ x has. has) (all.complete q p d old places)
      | inr same ↦ subst (λ (k : Open). IsPlacedLike (xs ++ o ∷ []) c k p.reply d.0 out) same (this p d (subst (λ (k : Open). PlacesIfUpdate step observes k c p d) (sym same) places))
    ];
  }
    where
      this : (p : Placed) (d : S × List (ℕ × Reply)) → PlacesIfUpdate step observes o c p d → IsPlacedLike (xs ++ o ∷ []) c o p.reply d.0 out
      this p d places =
          let k = all.complete t (record { at = t.at; reply = p.reply }) (d.0, insert_pair t.process p.reply c.1) there
          (ap observes call ∙ places.0, record { absent = absent; at = refl; steps = subst (λ a. step c.0 a d.0 p.reply) (sym call) places.1.steps; placed = refl }) in
          record {
            placed = k.placed;
            among = Contains-append_left xs (o ∷ []) k.placed k.among;
            stands = stands_through k.placed t o k.stands t_crashed crashed call;
            absent = k.absent;
            has = k.has;
          }

  module _ (xs : List Open) (i : ℕ) where
    pub updates_next : (o : Open) (out now : List ((S × List (ℕ × Reply)) × Placed)) → i < length xs → o ≡ get_or xs i o → IsTried (PlacesIfUpdate step observes o c) out now → AreUpdates step observes (take i xs) c out
        → AreUpdates step observes (take (i + 1) xs) c now
    updates_next o out now inside is one all = subst (λ l. AreUpdates step observes l c now) (sym (take_next xs i o inside is)) (updates_push (take i xs) o out now one all)

    pub updates_pass : (o : Open) (out : List ((S × List (ℕ × Reply)) × Placed)) → i < length xs → o ≡ get_or xs i o
        → IsTrue o.crashed × (t : Open) × Contains (take i xs) t × IsTrue t.crashed × (t.call ≡ o.call) × IsAbsent t.process c.1 → AreUpdates step observes (take i xs) c out
        → AreUpdates step observes (take (i + 1) xs) c out
    updates_pass o out inside is waits all =
        subst (λ l. AreUpdates step observes l c out) (sym (take_next xs i o inside is)) (updates_skip (take i xs) o out waits.0 waits.1 waits.2 waits.3 waits.4 waits.5 all)

    pub updates_full : (out : List ((S × List (ℕ × Reply)) × Placed)) → length xs ≤ i → AreUpdates step observes (take i xs) c out → AreUpdates step observes xs c out
    updates_full out past all = subst (λ l. AreUpdates step observes l c out) (take_all i xs past) all
