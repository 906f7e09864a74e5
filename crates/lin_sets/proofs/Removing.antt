-- Sets of which each is below the next, without one of them.
use Rattle.std.proofs.Common.{◌≡◌, ◌<◌, ◌∷◌, ◌++◌, [], suc, ℕ, List, AllPairs, Contains, take, drop, length, get_or, inl, inr, refl, sym, subst, ◌∙◌, arith, append_assoc}
use Rattle.std.specs.List.{remove}
use Rattle.std.proofs.lemmas.List.Elements.{Contains-append_cases, Contains-append_left, Contains-append_right}
use Rattle.std.proofs.lemmas.List.Quantifiers.{all_pairs_remove}
use Rattle.lin_events.specs.declared.items.Item.{Item}
use Rattle.lin_lists.specs.lemmas.Elements.{first_or_rest}
use Rattle.lin_lists.specs.lemmas.Taken.{split_at}
use Rattle.lin_certificates.specs.lemmas.Conflicting.{across}
use Rattle.lin_sets.specs.Levels.{AreWithout, IsBelow}

-- no set is below itself
pub not_itself : (s t : List Item) → t ≡ s → IsBelow s t → ⊥
not_itself s t same below = below.1.2 (subst (λ (l : List Item). Contains l below.1.0) same below.1.1)

pub removed : (levels : List (List Item)) (at : ℕ) (s : List Item) → at < length levels → s ≡ get_or levels at s → AllPairs IsBelow levels → AreWithout levels (remove levels at) s
removed levels at s inside is rising = record {
  left = λ t there. elim (Contains-append_cases ahead behind t there) [
    | inl early ↦ (
      subst (λ l. Contains l t) split (Contains-append_left ahead (s ∷ behind) t early),
      λ same. not_itself t s (sym same) (across IsBelow ahead (s ∷ behind) t s pairs early (0, omega arith, refl)),
    )
    | inr late ↦ (
      subst (λ l. Contains l t) split (Contains-append_right ahead (s ∷ behind) t (Contains-append_right (s ∷ []) behind t late)),
      λ same. not_itself s t same (across IsBelow (ahead ++ s ∷ []) behind s t (subst (AllPairs IsBelow) (sym (append_assoc ahead (s ∷ []) behind)) pairs)
          (Contains-append_right ahead (s ∷ []) s (0, omega arith, refl)) late),
    )
  ];
  kept = λ t there differ. elim (Contains-append_cases ahead (s ∷ behind) t (subst (λ l. Contains l t) (sym split) there)) [
    | inl early ↦ Contains-append_left ahead behind t early
    | inr from ↦ elim (first_or_rest s behind t from) [
      | inl same ↦ absurd (differ (sym same))
      | inr late ↦ Contains-append_right ahead behind t late
    ]
  ];
  rising = all_pairs_remove IsBelow levels at inside rising;
}
  where
    ahead : List (List Item)
    ahead = take at levels

    behind : List (List Item)
    behind = drop (suc at) levels

    split : ahead ++ s ∷ behind ≡ levels
    split = split_at levels at s inside is

    pairs : AllPairs IsBelow (ahead ++ s ∷ behind)
    pairs = subst (AllPairs IsBelow) (sym split) rising

-- where the set isn't one of them
pub none_removed : (levels : List (List Item)) (s : List Item) → ((k : ℕ) (d : List Item) → k < length levels → get_or levels k d ≡ s → ⊥) → AllPairs IsBelow levels → AreWithout levels levels s
none_removed levels s none rising = record {
  left = λ t there. (there, λ same. none there.0 t there.1 (there.2 ∙ same));
  kept = λ t there differ. there;
  rising = rising;
}
