use Rattle.std.proofs.Common.{◌≡◌, ◌<◌, ◌≤◌, ◌∙◌, ℕ, inl, inr, AllPairs, Contains, get_or, length, sym, ap, subst, Equal, Some, arith}
use Rattle.std.specs.Ordering.{nat_cmp}
use Rattle.std.specs.Result.{MatchResult}
use Rattle.std.specs.List.Sorted.{IsBinarySearchResult}
use Rattle.std.proofs.lemmas.Bool.{cases_lt}
use Rattle.std.proofs.lemmas.Cmp.{ranked}
use Rattle.std.proofs.lemmas.Option.{slice_get-get_or}
use Rattle.std.proofs.lemmas.List.Sorted.{searched}
use Rattle.std.proofs.lemmas.List.Quantifiers.{all_pairs_remove}
use Rattle.lin_locks.proofs.Lists.{from_removed, in_removed}
use Rattle.lin_locks.proofs.sides.Side.close.Goals as goal

pub returns-in-Ok-clause-gone : goal.returns-in-Ok-clause-gone
returns-in-Ok-clause-gone c = λ rising there.
    let old = c.args.self.now.open.items in
    let i = c.in-Ok.place in
    let inside : i < length old = subst (λ l. i < length l) c.deref.ensures.value c.in-Ok.ensures.bound in
    let is = ranked (get_or old i c.args.begin) c.args.begin Equal (sym (subst (λ l. nat_cmp (get_or l i c.args.begin) c.args.begin ≡ Equal) c.deref.ensures.value (c.in-Ok.ensures.ok c.args.begin))) in
    (i, slice_get-get_or old i c.args.begin inside ∙ ap Some is, c.remove-begin.ensures.items)

pub returns-in-Err-clause-gone : goal.returns-in-Err-clause-gone
returns-in-Err-clause-gone c = λ rising there.
    let old = c.args.self.now.open.items in
    let begin = c.args.begin in
    let position = subst (λ l. IsBinarySearchResult (λ y. nat_cmp y c.args.begin) l c.binary_search.result) c.deref.ensures.value c.binary_search.ensures.position in
    let parts = subst (λ r. MatchResult r (λ i. (i < length c.args.self.now.open.items) × (get_or c.args.self.now.open.items i 0 ≡ c.args.begin))
    (λ i. (i ≤ length c.args.self.now.open.items) × ((k : ℕ) → k < i → get_or c.args.self.now.open.items k 0 < c.args.begin) × ((k : ℕ) → i ≤ k → k < length c.args.self.now.open.items → c.args.begin < get_or c.args.self.now.open.items k 0)))
    c.in-Err.is (searched c.args.self.now.open.items c.args.begin c.binary_search.result position (λ i j upto within. elim (cases_lt i j) [
      | inl less ↦ let below : get_or c.args.self.now.open.items i 0 < get_or c.args.self.now.open.items j 0 = rising i j 0 less within in omega (arith, below)
      | inr same ↦ let one : i ≡ j = omega (arith, upto, same) in let is = ap (λ n. get_or c.args.self.now.open.items n 0) one in omega (arith, is)
    ])) in
    let j = there.0 in
    let inside : j < length old = there.1 in
    let is : get_or old j 0 ≡ begin = some_same (sym (slice_get-get_or old j 0 inside) ∙ slice_get-get_or old j begin inside) ∙ there.2 in
    absurd (elim (cases_lt j c.in-Err.field-0) [
      | inl before ↦ let below = parts.1 j before in omega (arith, below, is)
      | inr behind ↦ let above = parts.2 j behind inside in omega (arith, above, is)
    ])
  where
    some_same : {a b : ℕ} → Some a ≡ Some b → a ≡ b
    some_same e = cc

pub returns-in-Ok-clause-closed : goal.returns-in-Ok-clause-closed
returns-in-Ok-clause-closed c =
    let old = c.args.self.now.open.items in
    let i = c.in-Ok.place in
    let inside : i < length old = subst (λ l. i < length l) c.deref.ensures.value c.in-Ok.ensures.bound in
    record {
      kept = λ at there other. subst (λ l. Contains l at) (sym c.remove-begin.ensures.items) (in_removed old i at there
          (λ d here. other (sym here ∙ ranked (get_or old i d) c.args.begin Equal (sym (subst (λ l. nat_cmp (get_or l i d) c.args.begin ≡ Equal) c.deref.ensures.value (c.in-Ok.ensures.ok d))))));
      rising = λ rising. subst (AllPairs ◌<◌) (sym c.remove-begin.ensures.items) (all_pairs_remove ◌<◌ old i inside rising);
      none_new = λ at there. from_removed old i at (subst (λ l. Contains l at) c.remove-begin.ensures.items there);
    }
