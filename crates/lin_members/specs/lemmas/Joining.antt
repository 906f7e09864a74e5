-- Rounds and the orders that they spell, as lists.
use Rattle.std.proofs.Common.{◌≡◌, ℕ, zero, suc, ◌<◌, List, [], ◌∷◌, ◌++◌, length, Contains, AllPairs, ◌⊎◌, inl, inr, refl, sym, ap, subst, ◌∙◌, arith, Some, slice_get, get_or}
use Rattle.std.proofs.lemmas.List.{append_assoc, append-nil}
use Rattle.std.proofs.lemmas.List.Elements.{Contains-get_or, Contains-append_left, Contains-append_right, Contains-append_cases}
use Rattle.std.proofs.lemmas.List.Kept.{AllPairs-cons}
use Rattle.lin_events.specs.declared.calls.Call.{Call}
use Rattle.lin_events.specs.declared.calls.Reply.{Reply}
use Rattle.lin_events.specs.declared.events.Event.{Event}
use Rattle.lin_order.specs.declared.placed.Placed.{Placed}
use Rattle.lin_order.specs.Linearizable.{Runs}
use Rattle.lin_order.specs.Orders.{IsCall}
use Rattle.lin_members.specs.Rounds.{joined, put, RunsBy}
use Rattle.lin_members.specs.lemmas.Choosing.{head_pairs, nothing_in, tail_pairs}
use Rattle.lin_frontier.specs.lemmas.Inserting.{first_or_rest}

some_same : {X : Type 0} {a b : X} → Some a ≡ Some b → a ≡ b
some_same p = cc

-- one more in the middle of a list of which each pair is related
pub insert_pairs : {X : Type 0} (R : X → X → Type 0) (a : List X) (x : X) (b : List X) → AllPairs R (a ++ b) → ((y : X) → Contains a y → R y x) → ((y : X) → Contains b y → R x y) → AllPairs R (a ++ (x ∷ b))
insert_pairs R [] x b all before after = AllPairs-cons R x b (λ k d inside. after (get_or b k d) (Contains-get_or b k d inside)) all
insert_pairs R (y ∷ a) x b all before after =
    AllPairs-cons R y (a ++ (x ∷ b))
    (λ k d inside. each (get_or (a ++ (x ∷ b)) k d) (Contains-append_cases a (x ∷ b) (get_or (a ++ (x ∷ b)) k d) (Contains-get_or (a ++ (x ∷ b)) k d inside)))
    (insert_pairs R a x b (tail_pairs R y (a ++ b) all) (λ z there. before z (Contains-append_right (y ∷ []) a z there)) after)
  where
    each : (z : _) → Contains a z ⊎ Contains (x ∷ b) z → R y z
    each z (inl there) = head_pairs R y (a ++ b) z all (Contains-append_left a b z there)
    each z (inr there) = elim (first_or_rest x b z there) [
      | inl same ↦ subst (R y) same (before y (0, omega arith, refl))
      | inr later ↦ head_pairs R y (a ++ b) z all (Contains-append_right a b z later)
    ]

-- what rounds spell stands in one of them
pub joined_from : (rounds : List (List Placed)) (y : Placed) → Contains (joined rounds) y → (j : ℕ) × (round : List Placed) × (slice_get rounds j ≡ Some round) × Contains round y
joined_from [] y there = absurd (nothing_in y there)
joined_from (r ∷ rounds) y there = elim (Contains-append_cases r (joined rounds) y there) [
  | inl here ↦ (0, r, refl, here)
  | inr later ↦ let rest = joined_from rounds y later in (suc rest.0, rest.1, rest.2, rest.3)
]

pub joined_push : (rounds : List (List Placed)) (round : List Placed) → joined (rounds ++ round ∷ []) ≡ joined rounds ++ round
joined_push [] round = append-nil round
joined_push (w ∷ rounds) round = ap (λ l. w ++ l) (joined_push rounds round) ∙ sym (append_assoc w (joined rounds) round)

-- the order around the end of a round
pub record Around (k : ℕ) (p : Placed) (rounds : List (List Placed)) : Type 0 where
  pub front : List Placed
  pub back : List Placed
  pub without : joined rounds ≡ front ++ back
  pub with' : joined (put k p rounds) ≡ front ++ (p ∷ back)
  pub later : (y : Placed) → Contains back y → (j : ℕ) × (round : List Placed) × (k < j) × (slice_get rounds j ≡ Some round) × Contains round y

pub around : (k : ℕ) (p : Placed) (rounds : List (List Placed)) (round : List Placed) → slice_get rounds k ≡ Some round → Around k p rounds
around k p [] round is = cc
around zero p (w ∷ rounds) round is = record {
  front = w;
  back = joined rounds;
  without = refl;
  with' = append_assoc w (p ∷ []) (joined rounds);
  later = λ y there. let from = joined_from rounds y there in (suc from.0, from.1, omega arith, from.2, from.3);
}
around (suc k) p (w ∷ rounds) round is =
    let rest = around k p rounds round is in
    record {
      front = w ++ rest.front;
      back = rest.back;
      without = ap (λ l. w ++ l) rest.without ∙ sym (append_assoc w rest.front rest.back);
      with' = ap (λ l. w ++ l) rest.with' ∙ sym (append_assoc w rest.front (p ∷ rest.back));
      later = λ y there. let from = rest.later y there in (suc from.0, from.1, let less = from.2 in omega arith, from.3, from.4);
    }

pub put_many : (k : ℕ) (p : Placed) (rounds : List (List Placed)) → length (put k p rounds) ≡ length rounds
put_many k p [] = refl
put_many zero p (r ∷ rounds) = refl
put_many (suc k) p (r ∷ rounds) = let rest = put_many k p rounds in omega arith

-- each round has what it had, and perhaps the new one
pub put_was : (k : ℕ) (p : Placed) (rounds : List (List Placed)) (j : ℕ) (round : List Placed) → slice_get (put k p rounds) j ≡ Some round
    → (was : List Placed) × (slice_get rounds j ≡ Some was) × ((y : Placed) → Contains round y → Contains was y ⊎ (p ≡ y))
put_was k p [] j round is = cc
put_was zero p (w ∷ rounds) zero round is = (
  w,
  refl,
  λ y there. elim (Contains-append_cases w (p ∷ []) y (subst (λ z. Contains z y) (sym (some_same is)) there)) [
    | inl old ↦ inl old
    | inr new ↦ elim (first_or_rest p [] y new) [
      | inl same ↦ inr same
      | inr none ↦ absurd (nothing_in y none)
    ]
  ],
)
put_was zero p (w ∷ rounds) (suc j) round is = (round, is, λ y there. inl there)
put_was (suc k) p (w ∷ rounds) zero round is = (round, is, λ y there. inl there)
put_was (suc k) p (w ∷ rounds) (suc j) round is = put_was k p rounds j round is

module _ {S : Type 0} (step : S → Call → S → Reply → Type 0) (h : List Event) where
  pub runs_append : (a b : List Placed) (s u t : S) → Runs step h s a u → Runs step h u b t → Runs step h s (a ++ b) t
  runs_append [] b s u t first second = subst (λ v. Runs step h v b t) (sym first) second
  runs_append (p ∷ a) b s u t first second = (first.0, first.1, first.2, first.3, runs_append a b first.1 u t first.4 second)

  pub runs_joined : (states : List S) (rounds : List (List Placed)) (s t : S) → RunsBy step h s states rounds t → Runs step h s (joined rounds) t
  runs_joined [] [] s t runs = runs
  runs_joined (v ∷ states) (r ∷ rounds) s t runs = runs_append r (joined rounds) s v t runs.0 (runs_joined states rounds v t runs.1)
  runs_joined [] (r ∷ rounds) s t runs = absurd runs
  runs_joined (v ∷ states) [] s t runs = absurd runs

  -- each state has its round
  pub round_of : (states : List S) (rounds : List (List Placed)) (s t : S) → RunsBy step h s states rounds t → (k : ℕ) (v : S) → slice_get states k ≡ Some v → (round : List Placed) × (slice_get rounds k ≡ Some round)
  round_of [] [] s t runs k v is = cc
  round_of (w ∷ states) (r ∷ rounds) s t runs zero v is = (r, refl)
  round_of (w ∷ states) (r ∷ rounds) s t runs (suc k) v is = round_of states rounds w t runs.1 k v is
  round_of [] (r ∷ rounds) s t runs k v is = absurd runs
  round_of (w ∷ states) [] s t runs k v is = absurd runs

  -- the last round ends in the last state
  pub last_state : (states : List S) (rounds : List (List Placed)) (s t : S) → RunsBy step h s states rounds t → (last : ℕ) → suc last ≡ length rounds → slice_get states last ≡ Some t
  last_state [] [] s t runs last many = absurd (omega (arith, many))
  last_state (w ∷ []) (r ∷ []) s t runs zero many = ap (λ v. Some v) runs.1
  last_state (w ∷ []) (r ∷ []) s t runs (suc last) many = absurd (omega (arith, many))
  last_state (w ∷ v ∷ states) (r ∷ q ∷ rounds) s t runs zero many = absurd (omega (arith, many))
  last_state (w ∷ v ∷ states) (r ∷ q ∷ rounds) s t runs (suc last) many = last_state (v ∷ states) (q ∷ rounds) w t runs.1 last (omega (arith, many))
  last_state [] (r ∷ rounds) s t runs last many = absurd runs
  last_state (w ∷ states) [] s t runs last many = absurd runs
  last_state (w ∷ []) (r ∷ q ∷ rounds) s t runs last many = absurd runs.1
  last_state (w ∷ v ∷ states) (r ∷ []) s t runs last many = absurd runs.1

  pub runs_put : (k : ℕ) (p : Placed) (call : Call) (states : List S) (rounds : List (List Placed)) (v s t : S) → slice_get states k ≡ Some v → IsCall h p.at call → step v call v p.reply
      → RunsBy step h s states rounds t → RunsBy step h s states (put k p rounds) t
  runs_put k p call [] [] v s t is begins steps runs = cc
  runs_put zero p call (w ∷ states) (r ∷ rounds) v s t is begins steps runs =
      (runs_append r (p ∷ []) s w w runs.0 (call, w, begins, subst (λ u. step u call u p.reply) (sym (some_same is)) steps, refl), runs.1)
  runs_put (suc k) p call (w ∷ states) (r ∷ rounds) v s t is begins steps runs = (runs.0, runs_put k p call states rounds v w t is begins steps runs.1)
  runs_put k p call [] (r ∷ rounds) v s t is begins steps runs = absurd runs
  runs_put k p call (w ∷ states) [] v s t is begins steps runs = absurd runs

  pub runs_by_push : (states : List S) (rounds : List (List Placed)) (round : List Placed) (s u v : S) → RunsBy step h s states rounds u → Runs step h u round v → RunsBy step h s (states ++ v ∷ []) (rounds ++ round ∷ []) v
  runs_by_push [] [] round s u v runs one = (subst (λ w. Runs step h w round v) (sym runs) one, refl)
  runs_by_push (w ∷ states) (r ∷ rounds) round s u v runs one = (runs.0, runs_by_push states rounds round w u v runs.1 one)
  runs_by_push [] (r ∷ rounds) round s u v runs one = absurd runs
  runs_by_push (w ∷ states) [] round s u v runs one = absurd runs

  -- in a history that has all the calls
  module _ (g : List Event) (calls : (at : ℕ) (call : Call) → IsCall h at call → IsCall g at call) where
    runs_again : (order : List Placed) (s t : S) → Runs step h s order t → Runs step g s order t
    runs_again [] s t runs = runs
    runs_again (p ∷ order) s t runs = (runs.0, runs.1, calls p.at runs.0 runs.2, runs.3, runs_again order runs.1 t runs.4)

    pub runs_by_again : (states : List S) (rounds : List (List Placed)) (s t : S) → RunsBy step h s states rounds t → RunsBy step g s states rounds t
    runs_by_again [] [] s t runs = runs
    runs_by_again (w ∷ states) (r ∷ rounds) s t runs = (runs_again r s w runs.0, runs_by_again states rounds w t runs.1)
    runs_by_again [] (r ∷ rounds) s t runs = absurd runs
    runs_by_again (w ∷ states) [] s t runs = absurd runs
