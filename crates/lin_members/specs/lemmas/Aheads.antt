-- An operation as a round of its own ahead of the last one.
use Rattle.std.proofs.Common.{◌≡◌, ℕ, zero, suc, ◌<◌, ◌≤◌, Bool, List, [], ◌∷◌, ◌++◌, length, Contains, inl, inr, refl, sym, ap, subst, arith, Option, Some, slice_get}
use Rattle.std.proofs.lemmas.Bool.{cond_above, cond_below}
use Rattle.std.proofs.lemmas.List.{append-nil}
use Rattle.lin_events.specs.declared.calls.Call.{Call}
use Rattle.lin_events.specs.declared.calls.Reply.{Reply}
use Rattle.lin_events.specs.declared.events.Event.{Event}
use Rattle.lin_lists.specs.lemmas.Lists.{get_inside}
use Rattle.lin_order.specs.declared.placed.Placed.{Placed}
use Rattle.lin_order.specs.Linearizable.{Runs}
use Rattle.lin_members.specs.Members.{Member}
use Rattle.lin_members.specs.RoundLaws.{IsOfferFrom}
use Rattle.lin_members.specs.Rounds.{ahead, begin_round, place, put, puts, IsTrailOf, RunsBy, SpellsRounds}
use Rattle.lin_members.specs.lemmas.Choosing.{nothing_in}
use Rattle.lin_frontier.specs.lemmas.Inserting.{first_or_rest}
use Rattle.lin_members.specs.lemmas.Joining.{round_of}

-- where there is such a round, an operation is put into it
pub place_put : (k : ℕ) (p : Placed) (rounds : List (List Placed)) → k < length rounds → place k p rounds ≡ put k p rounds
place_put k p rounds inside = sym (cond_below k (length rounds) (put k p rounds) (ahead p rounds) inside)

-- elsewhere it goes ahead of the last one
pub place_ahead : (k : ℕ) (p : Placed) (rounds : List (List Placed)) → length rounds ≤ k → place k p rounds ≡ ahead p rounds
place_ahead k p rounds past = sym (cond_above k (length rounds) (put k p rounds) (ahead p rounds) (ahead p rounds) past refl)

-- as a round behind those ahead of the last one
pub ahead_last : (p : Placed) (front : List (List Placed)) (last : List Placed) → ahead p (front ++ last ∷ []) ≡ begin_round p front ++ last ∷ []
ahead_last p [] last = refl
ahead_last p (r ∷ []) last = refl
ahead_last p (r ∷ next ∷ front) last = ap (λ l. r ∷ l) (ahead_last p (next ∷ front) last)

-- which is one round more
pub ahead_many : (p : Placed) (rounds : List (List Placed)) → 0 < length rounds → length (ahead p rounds) ≡ suc (length rounds)
ahead_many p [] some = absurd (omega arith)
ahead_many p (r ∷ []) some = refl
ahead_many p (r ∷ next ∷ rounds) some = let rest = ahead_many p (next ∷ rounds) (omega arith) in omega arith

-- rounds with one put in have a last one as before, or with just that behind
pub record PutLast (k : ℕ) (p : Placed) (front : List (List Placed)) (last : List Placed) : Type 0 where
  pub before : List (List Placed)
  pub more : List Placed
  pub is : put k p (front ++ last ∷ []) ≡ before ++ (last ++ more) ∷ []
  pub many : length before ≡ length front
  pub only : (y : Placed) → Contains more y → p ≡ y

pub put_last : (k : ℕ) (p : Placed) (front : List (List Placed)) (last : List Placed) → PutLast k p front last
put_last zero p [] last = record {
  before = [];
  more = p ∷ [];
  is = refl;
  many = refl;
  only = λ y there. elim (first_or_rest p [] y there) [
    | inl same ↦ same
    | inr none ↦ absurd (nothing_in y none)
  ];
}
put_last (suc k) p [] last = record { before = []; more = []; is = ap (λ l. l ∷ []) (sym (append-nil last)); many = refl; only = λ y there. absurd (nothing_in y there) }
put_last zero p (r ∷ front) last = record {
  before = (r ++ p ∷ []) ∷ front;
  more = [];
  is = ap (λ l. (r ++ p ∷ []) ∷ (front ++ l ∷ [])) (sym (append-nil last));
  many = refl;
  only = λ y there. absurd (nothing_in y there);
}
put_last (suc k) p (r ∷ front) last =
    let rest = put_last k p front last in
    record { before = r ∷ rest.before; more = rest.more; is = ap (λ l. r ∷ l) rest.is; many = ap suc rest.many; only = rest.only }

module _ {S : Type 0} (step : S → Call → S → Reply → Type 0) (h : List Event) where
  -- states are as many as rounds
  pub runs_many : (states : List S) (rounds : List (List Placed)) (s t : S) → RunsBy step h s states rounds t → length states ≡ length rounds
  runs_many [] [] s t runs = refl
  runs_many (v ∷ states) (r ∷ rounds) s t runs = ap suc (runs_many states rounds v t runs.1)
  runs_many [] (r ∷ rounds) s t runs = absurd runs
  runs_many (v ∷ states) [] s t runs = absurd runs

  -- runs in two, at the last round
  pub record RunsOver (states : List S) (front : List (List Placed)) (last : List Placed) (s t : S) : Type 0 where
    pub heads : List S
    pub middle : S
    pub is : states ≡ heads ++ t ∷ []
    pub before : RunsBy step h s heads front middle
    pub over : Runs step h middle last t

  pub runs_over : (states : List S) (front : List (List Placed)) (last : List Placed) (s t : S) → RunsBy step h s states (front ++ last ∷ []) t → RunsOver states front last s t
  runs_over (v ∷ []) [] last s t runs = record { heads = []; middle = s; is = ap (λ w. w ∷ []) runs.1; before = refl; over = subst (Runs step h s last) runs.1 runs.0 }
  runs_over (v ∷ states) (r ∷ front) last s t runs =
      let rest = runs_over states front last v t runs.1 in
      record { heads = v ∷ rest.heads; middle = rest.middle; is = ap (λ l. v ∷ l) rest.is; before = (runs.0, rest.before); over = rest.over }
  runs_over [] [] last s t runs = absurd runs
  runs_over (v ∷ w ∷ states) [] last s t runs = absurd runs.1
  runs_over [] (r ∷ front) last s t runs = absurd runs

-- a round that offers a reply is there, so a node that names it puts an operation into it
pub puts_offered : {S : Type 0} (start : S) (step : S → Call → S → Reply → Type 0) (observes : Call → Bool) (h : List Event) (states : List S) (rounds : List (List Placed)) (m : Member S) → IsTrailOf start step observes h states rounds m
    → (round : ℕ) (x : ℕ × Reply) → IsOfferFrom step h rounds m round x → (nodes : List (ℕ × (Placed × Option ℕ))) (k parent : ℕ) (p : Placed) → slice_get nodes k ≡ Some (parent, (p, Some round)) → SpellsRounds nodes parent rounds
    → SpellsRounds nodes (suc k) (put round p rounds)
puts_offered start step observes h states rounds m is round x offer nodes k parent p at spelled = subst (SpellsRounds nodes (suc k)) (place_put round p rounds (inside offer)) (puts at spelled)
  where
    inside : IsOfferFrom step h rounds m round x → round < length rounds
    inside (inl old) =
        let o = (is.offered round x old).1 in
        let r = round_of step h states rounds start m.state is.trail.runs round o.state o.there in
        get_inside rounds round r.0 r.1
    inside (inr now) = omega (arith, now.0)
