-- What comes of taking each different item out of a bag.
use Rattle.std.proofs.Common.{◌≡◌, ◌≢◌, ℕ, ◌+◌, ◌<◌, ◌≤◌, List, [], ◌∷◌, ◌++◌, Some, length, get_or, sym, ap, ◌∙◌, subst, ⊎_elim, arith}
use Rattle.std.specs.Prelude.{AllPairs, Contains, slice_get}
use Rattle.std.proofs.lemmas.Bool.{cases_lt}
use Rattle.std.proofs.lemmas.List.{get_or_default}
use Rattle.std.proofs.lemmas.List.Elements.{Contains-append_left, Contains-push, Contains-push_cases}
use Rattle.std.proofs.lemmas.List.Quantifiers.{all_pairs_push}
use Rattle.std.proofs.lemmas.Option.{slice_get_within}
use Rattle.lin_events.specs.declared.items.Item.{Item}
use Rattle.lin_events.specs.declared.calls.Call.TheVariants.{Dequeue}
use Rattle.lin_events.specs.declared.calls.Reply.{Reply}
use Rattle.lin_events.specs.declared.calls.Reply.TheVariants as Replied
use Rattle.lin_events.specs.declared.calls.Val.TheVariants.{Item as Held}
use Rattle.lin_lists.specs.lemmas.Taken.{Contains-slice_get, slice_get-Contains}
use Rattle.lin_objects.specs.Bags.{without_one}
use Rattle.lin_objects.specs.inner.OnlySteps.{AreAllSteps}
use Rattle.lin_objects.specs.inner.Taking.{IsAgainAt, IsFirstAt}
use Rattle.lin_objects.specs.declared.kinds.Kind.TheVariants.{Bag}
use Rattle.lin_objects.specs.declared.states.State.{State}
use Rattle.lin_objects.specs.declared.states.State.TheVariants.{Bag as Bagged}

-- the bag without the item, and the item as a reply
abbrev pub taken : List Item → Item → State × Reply
taken q y = (Bagged (without_one y q), Replied.Value (Held y))

-- what is listed comes of the first items, and of each of them something is, once
pub record AreTaken (q : List Item) (n : ℕ) (out : List (State × Reply)) : Type 0 where
  pub sound : (p : State × Reply) → Contains out p → (k : ℕ) × (y : Item) × (k < n) × (slice_get q k ≡ Some y) × (p ≡ taken q y)
  pub complete : (k : ℕ) (y : Item) → k < n → slice_get q k ≡ Some y → Contains out (taken q y)
  pub once : AllPairs (λ p q. p ≢ q) out

pub none_taken : (q : List Item) → AreTaken q 0 []
none_taken q = record {
  sound = λ p has. absurd (let h = has.1 in omega arith);
  complete = λ k y lt there. absurd (omega arith);
  once = λ i j d lt within. absurd (omega arith);
}

same_item : (q : List Item) (x y : Item) → taken q x ≡ taken q y → x ≡ y
same_item q x y e =
    let replies : Replied.Value (Held x) ≡ Replied.Value (Held y) = ap (λ (p : State × Reply). p.1) e in
    cc

-- one item more, which stands there first
pub takes_first : (q : List Item) (n : ℕ) (y : Item) (out : List (State × Reply)) → slice_get q n ≡ Some y → IsFirstAt q n → AreTaken q n out → AreTaken q (n + 1) (out ++ taken q y ∷ [])
takes_first q n y out there first so = record {
  sound = λ p has. ⊎_elim
      (λ (old : Contains out p). let f = so.sound p old in (f.0, f.1, omega (arith, f.2), f.3, f.4))
      (λ (new : taken q y ≡ p). (n, y, omega arith, there, sym new))
      (Contains-push_cases out (taken q y) p has);
  complete = λ k x lt at. ⊎_elim
      (λ (h : k < n). Contains-append_left out (taken q y ∷ []) (taken q x) (so.complete k x h at))
      (λ (h : n ≤ k).
      let e : k ≡ n = omega arith in
      let same : Some x ≡ Some y = sym at ∙ ap (slice_get q) e ∙ there in
      subst (λ z. Contains (out ++ taken q y ∷ []) (taken q z)) (item same) (Contains-push out (taken q y)))
      (cases_lt k n);
  once = all_pairs_push (λ p q. p ≢ q) out (taken q y) so.once (λ k d within. not_there (get_or out k d) (k, within, get_or_default out k (get_or out k d) d within));
}
  where
    item : {x z : Item} → Some x ≡ Some z → z ≡ x
    item e = cc

    not_there : (p : State × Reply) → Contains out p → p ≢ taken q y
    not_there p has e =
        let f = so.sound p has in
        let n = f.1 in
        first f.0 f.2 (f.3 ∙ ap Some (same_item q n y (sym f.4 ∙ e)) ∙ sym there)

-- one item more, which stands ahead too
pub takes_again : (q : List Item) (n : ℕ) (y : Item) (out : List (State × Reply)) → slice_get q n ≡ Some y → IsAgainAt q n → AreTaken q n out → AreTaken q (n + 1) out
takes_again q n y out there again so = record {
  sound = λ p has. let f = so.sound p has in (f.0, f.1, omega (arith, f.2), f.3, f.4);
  complete = λ k x lt at. ⊎_elim
      (λ (h : k < n). so.complete k x h at)
      (λ (h : n ≤ k). let e : k ≡ n = omega arith in so.complete again.0 x again.1 (again.2 ∙ ap (slice_get q) (sym e) ∙ at))
      (cases_lt k n);
  once = so.once;
}

-- where all items were looked at, all steps are listed
pub all_taken : (q : List Item) (n : ℕ) (out : List (State × Reply)) → 0 < length q → length q ≤ n → AreTaken q n out → AreAllSteps Bag (Bagged q) Dequeue out
all_taken [] n out some all so = absurd (omega arith)
all_taken (x ∷ q) n out some all so = record {
  sound = λ next reply has.
      let f = so.sound (next, reply) has in
      (f.1, Contains-slice_get (x ∷ q) f.0 f.1 f.3, ap (λ p. p.0) f.4, ap (λ p. p.1) f.4);
  complete = λ next reply step.
      let p = slice_get-Contains (x ∷ q) step.0 step.1 in
      let within = slice_get_within (x ∷ q) p.0 step.0 p.1 in
      subst (λ r. Contains out (next, r)) (sym step.3) (subst (λ s. Contains out (s, Replied.Value (Held step.0))) (sym step.2) (so.complete p.0 step.0 (omega arith) p.1));
  once = so.once;
}

pub as_taken : (q : List Item) (y : Item) (b : List Item) (z : Item) → b ≡ without_one y q → z ≡ y → (Bagged b, Replied.Value (Held z)) ≡ taken q y
as_taken q y b z gone same = ap (λ l. (Bagged l, Replied.Value (Held z))) gone ∙ ap (λ n. (Bagged (without_one y q), Replied.Value (Held n))) same
