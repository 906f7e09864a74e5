use Rattle.std.proofs.lemmas.List.Filters.{dedup_is}
use Rattle.std.proofs.lemmas.List.Kept.{IsStrictlySortedBy-dedup, Contains-dedup, Contains-from_dedup}
use Rattle.std.proofs.lemmas.List.Sorted.{Contains-permutation, IsPermutation-sym}
use Rattle.std.proofs.lemmas.Map.Keys.{IsDistinct-IsPermutation}
use Rattle.lin_events.specs.Items.{item_eq}
use Rattle.lin_events.specs.Sameness.{Decides-item_eq, items_total, item_eq_equiv, ties}
use Rattle.lin_answers.proofs.Keys.{distinct_keys}
use Rattle.lin_answers.proofs.present.Present.objects.Goals as goal

pub returns : goal.returns
returns c =
    let is = dedup_is _ _ _ c.dedup.ensures.filtered in
    let moved = c.sort_unstable.ensures.permutation in
    let placed = c.put_in_print.ensures.same in
    let listed = c.in_ok-keys.ensures in
    rw (← c.self.view_is) (record {
      in_print = c.put_in_print.ensures.printed;
      once = IsDistinct-IsPermutation item_eq item_eq_equiv.symm _ _ placed (rw is (distinct_keys _ (IsStrictlySortedBy-dedup items_total ties _ c.sort_unstable.ensures.sorted)));
      each = λ key. (
        λ k. (listed key).0 (Contains-permutation _ _ key (IsPermutation-sym _ _ moved) (Contains-from_dedup _ _ key (rw is at (Contains-permutation _ _ key (IsPermutation-sym _ _ placed) k)))),
        λ o. Contains-permutation _ _ key placed (rw is (Contains-dedup item_eq_equiv (λ x y. (Decides-item_eq x y).0) _ key (Contains-permutation _ _ key moved ((listed key).1 o)))),
      );
    })
