-- The elements of each item, with one element more.
use Rattle.std.proofs.Common.{◌≡◌, ◌<◌, ℕ, true, cond, List, [], ◌∷◌, ◌++◌, length, Some, inl, inr, sym, ap, ◌∙◌, subst, arith, slice_get}
use Rattle.std.specs.Map.{lookup}
use Rattle.std.proofs.lemmas.Bool.{cases_Bool}
use Rattle.std.proofs.lemmas.Option.{slice_get_within}
use Rattle.lin_events.specs.declared.items.Item.{Item}
use Rattle.lin_events.specs.Items.{item_eq}
use Rattle.lin_events.specs.Sameness.{item_itself}
use Rattle.lin_lists.specs.lemmas.Lists.{get_cases}
use Rattle.lin_queues.specs.declared.elements.Element.{Element}
use Rattle.lin_queues.specs.Chains.{AreChained}

pub chained_more : (all : List Element) (latest after : List (Item × ℕ)) (new : Element) (last : ℕ) → last ≡ length all → AreChained all latest
    → ((q : Item) → lookup (item_eq q) after ≡ cond (item_eq new.item q) (Some last) (lookup (item_eq q) latest))
    → ((i : ℕ) (x : Element) → slice_get all i ≡ Some x → x.item ≡ new.item → i < new.earlier) → AreChained (all ++ new ∷ []) after
chained_more all latest after new end is chained updated earlier = record {
  known = λ i x at. elim (get_cases all new i x at) [
    | inl old ↦ elim (cases_Bool (item_eq new.item x.item)) [
      | inl same ↦ (end, updated x.item ∙ ap (λ b. cond b (Some end) (lookup (item_eq x.item) latest)) same, (let l = slice_get_within all i x old in omega (arith, is)))
      | inr differ ↦ (
          let was = chained.known i x old in
          (was.0, updated x.item ∙ ap (λ b. cond b (Some end) (lookup (item_eq x.item) latest)) differ ∙ was.1, was.2))
    ]
    | inr last ↦ (end, updated x.item ∙ ap (λ b. cond b (Some end) (lookup (item_eq x.item) latest)) (subst (λ (y : Element). item_eq new.item y.item ≡ true) last.1 (item_itself new.item)), (let e = last.0 in omega (arith, is)))
  ];
  linked = λ i j x y at_i at_j before same. elim (get_cases all new j y at_j) [
    | inr last ↦ elim (get_cases all new i x at_i) [
      | inl old ↦ (let l = slice_get_within all i x old in let e = last.0 in absurd (omega arith))
      | inr other ↦ (let e = last.0 in let f = other.0 in absurd (omega arith))
    ]
    | inl first ↦ elim (get_cases all new i x at_i) [
      | inl old ↦ chained.linked i j x y old first before same
      | inr here ↦ subst (λ (z : Element). j < z.earlier) here.1 (earlier j y first (same ∙ ap (λ (z : Element). z.item) (sym here.1)))
    ]
  ];
}
