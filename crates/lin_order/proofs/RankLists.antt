-- Ranks of a part, as the part grows.
use Rattle.std.proofs.Common.{◌≡◌, ◌<◌, ◌+◌, ℕ, max, List, [], ◌∷◌, ◌++◌, length, get_or, map, take, append_assoc, refl, sym, ap, ◌∙◌}
use Rattle.std.proofs.lemmas.List.{map-append}
use Rattle.lin_order.specs.declared.placed.Placed.{Placed}
use Rattle.lin_order.specs.inner.Merging.{ranks_from}
use Rattle.lin_order.specs.lemmas.Lists.{take_more}

-- the greatest position, at least `base`
abbrev pub greatest : ℕ → List Placed → ℕ
greatest base [] = base
greatest base (p ∷ part) = greatest (max base p.at) part

greatest_push : (base : ℕ) (part : List Placed) (p : Placed) → greatest base (part ++ p ∷ []) ≡ max (greatest base part) p.at
greatest_push base [] p = refl
greatest_push base (q ∷ part) p = greatest_push (max base q.at) part p

ranks_push : (base : ℕ) (part : List Placed) (p : Placed) → ranks_from base (part ++ p ∷ []) ≡ ranks_from base part ++ max (greatest base part) p.at ∷ []
ranks_push base [] p = refl
ranks_push base (q ∷ part) p = ap (λ l. max base q.at ∷ l) (ranks_push (max base q.at) part p)

module _ (part : List Placed) (i : ℕ) (p : Placed) (inside : i < length part) (is : p ≡ get_or part i p) where
  pub greatest_more : (rank : ℕ) → rank ≡ greatest 0 (take i part) → max rank p.at ≡ greatest 0 (take (i + 1) part)
  greatest_more rank so_far = ap (λ r. max r p.at) so_far ∙ sym (greatest_push 0 (take i part) p) ∙ ap (greatest 0) (sym (take_more part i p inside is))

  pub ranks_more : (number rank : ℕ) (old now later : List (ℕ × ℕ)) → rank ≡ greatest 0 (take i part) → now ≡ old ++ map (λ r. (r, number)) (ranks_from 0 (take i part))
      → later ≡ now ++ (max rank p.at, number) ∷ [] → later ≡ old ++ map (λ r. (r, number)) (ranks_from 0 (take (i + 1) part))
  ranks_more number rank old now later so_far was made =
      let f : ℕ → ℕ × ℕ = λ r. (r, number) in
      made ∙ ap (λ l. l ++ (max rank p.at, number) ∷ []) was ∙ append_assoc old (map f (ranks_from 0 (take i part))) ((max rank p.at, number) ∷ [])
      ∙ ap (λ r. old ++ (map f (ranks_from 0 (take i part)) ++ (max r p.at, number) ∷ [])) so_far
      ∙ ap (λ l. old ++ l) (sym (map-append f (ranks_from 0 (take i part)) (max (greatest 0 (take i part)) p.at ∷ []))
      ∙ ap (map f) (sym (ranks_push 0 (take i part) p) ∙ ap (ranks_from 0) (sym (take_more part i p inside is))))
