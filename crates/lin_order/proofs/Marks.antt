-- Marks at the positions that an order names.
use Rattle.std.proofs.Common.{◌≡◌, ◌≢◌, ◌<◌, ℕ, zero, suc, ◌+◌, List, [], ◌∷◌, ◌++◌, length, Bool, true, false, inl, inr, refl, sym, ap, subst, ◌∙◌, arith, take, get_or, set, replicate, get_or-set_other, get_or-set_same}
use Rattle.std.proofs.lemmas.Bool.{cases_eq}
use Rattle.std.proofs.lemmas.List.Elements.{All-push, All-weaker, Contains-push, Contains-append_left}
use Rattle.lin_order.specs.declared.placed.Placed.{Placed}
use Rattle.lin_order.specs.Orders.{Places}
use Rattle.lin_order.specs.Tables.{NamesOnce, IsMarked}
use Rattle.lin_order.specs.lemmas.Lists.{take_more}
use Rattle.lin_order.specs.lemmas.Each.{pairs_more, not_pairs}

unmarked : (n at : ℕ) → get_or (replicate n false) at false ≡ true → ⊥
unmarked zero at is = cc
unmarked (suc n) zero is = cc
unmarked (suc n) (suc at) is = unmarked n at is

pub marked_none : (n : ℕ) (marks : List Bool) → marks ≡ replicate n false → IsMarked [] marks
marked_none n marks made = record {
  sound = λ at is. absurd (unmarked n at (sym (ap (λ l. get_or l at false) made) ∙ is));
  complete = λ k d inside. absurd (omega arith);
}

module _ (order : List Placed) (marks : List Bool) (p : Placed) (inside : p.at < length marks) (is : IsMarked order marks) where
  marked_push : IsMarked (order ++ p ∷ []) (set marks p.at true)
  marked_push = record {
    sound = λ at marked. elim (cases_eq at p.at) [
      | inl same ↦ (p.reply, subst (λ k. Places (order ++ p ∷ []) k p.reply) (sym same) (Contains-push order p))
      | inr other ↦
          let before = is.sound at (sym (get_or-set_other marks p.at at true false other) ∙ marked) in
          (before.0, Contains-append_left order (p ∷ []) (record { at = at; reply = before.0 }) before.1)
    ];
    complete = All-push (λ q. get_or (set marks p.at true) q.at false ≡ true) order p
        (All-weaker (λ q. get_or marks q.at false ≡ true) (λ q. get_or (set marks p.at true) q.at false ≡ true) still order is.complete)
        (get_or-set_same marks p.at true false inside);
  }
    where
      still : (q : Placed) → get_or marks q.at false ≡ true → get_or (set marks p.at true) q.at false ≡ true
      still q marked = elim (cases_eq q.at p.at) [
        | inl same ↦ ap (λ k. get_or (set marks p.at true) k false) same ∙ get_or-set_same marks p.at true false inside
        | inr other ↦ get_or-set_other marks p.at q.at true false other ∙ marked
      ]

module _ (order : List Placed) (i : ℕ) (p : Placed) (inside : i < length order) (is : p ≡ get_or order i p) (marks : List Bool) (so_far : IsMarked (take i order) marks) where
  -- a position that is not marked is named for the first time
  pub once_more : get_or marks p.at false ≡ false → NamesOnce (take i order) → NamesOnce (take (i + 1) order)
  once_more unmarked once =
      pairs_more order i p inside is (λ q r. q.at ≢ r.at) once
      (All-weaker (λ q. get_or marks q.at false ≡ true) (λ q. q.at ≢ p.at) (λ q marked same. differ (sym marked ∙ ap (λ k. get_or marks k false) same ∙ unmarked)) (take i order) so_far.complete)
    where
      differ : true ≡ false → ⊥
      differ e = cc

  -- a position that is marked is named again
  pub named_again : get_or marks p.at false ≡ true → NamesOnce order → ⊥
  named_again marked once =
      let before = so_far.sound p.at marked in
      not_pairs order i p inside is (λ q r. q.at ≢ r.at) (record { at = p.at; reply = before.0 }) before.1 (λ differ. differ refl) once

  -- so where the order names no position twice, this one is not marked
  pub unmarked_here : NamesOnce order → get_or marks p.at false ≡ false
  unmarked_here once = by (get_or marks p.at false) refl
    where
      by : (b : Bool) → get_or marks p.at false ≡ b → get_or marks p.at false ≡ false
      by true marked = absurd (named_again marked once)
      by false unmarked = unmarked

  pub marked_more : (now : List Bool) → p.at < length marks → now ≡ set marks p.at true → IsMarked (take (i + 1) order) now
  marked_more now within made =
      subst (λ l. IsMarked l now) (sym (take_more order i p inside is)) (subst (IsMarked (take i order ++ p ∷ [])) (sym made) (marked_push (take i order) marks p within so_far))
