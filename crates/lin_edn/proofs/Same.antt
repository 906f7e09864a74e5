-- From the mask of a comparison of two vectors to the lanes that are the same.
use Rattle.std.proofs.Common.{◌≡◌, ℕ, ◌<◌, ◌≤◌, ◌%◌, ◌^◌, Bool, false, not, eqb, cond, List, [], ◌∷◌, map, length, get_or, refl, sym, ap, ◌∙◌, arith, inl, inr, w8}
use Rattle.std.proofs.lemmas.Bool.{cases_eq, eq-eqb, ne_eqb, cond-true, cond-false, not-true, not-false, eqb-true}
use Rattle.std.proofs.lemmas.Simd.{mask_l-mod, leading_from_mask_l, trailing_mask_l, tops_compared, length-zip2, get_or-zip2}
use Rattle.std.proofs.lemmas.List.Sums.{prefix_len_passes, prefix_len-le-length}
use Rattle.std.specs.List.{prefix_len}
use lib.Lanes.{zip2, mask_l, top}
use Rattle.lin_edn.specs.inner.Lanes.{first_set}

same_bits : (ms : List Bool) → map (λ b. b) ms ≡ ms
same_bits [] = refl
same_bits (m ∷ ms) = ap (λ r. m ∷ r) (same_bits ms)

run_of : (ms : List Bool) (n : ℕ) → length ms ≡ n → n ≤ 64 → first_set (mask_l (map (λ b. b) ms)) n ≡ prefix_len (λ b. not b) ms
run_of ms n long few =
    elim (cases_eq (mask_l (map (λ b. b) ms)) 0) [
      | inl none ↦ cond-true _ _ _ (eq-eqb _ _ none) ∙ sym (leading_from_mask_l (λ b. b) ms none ∙ long)
      | inr some ↦ cond-false _ _ _ (ne_eqb _ _ some) ∙ trailing_mask_l (λ b. b) 64 ms (omega arith) (omega arith)
    ]

-- the lanes ahead of the first that differs
pub same_lanes : (v w : List ℕ) (k : ℕ) → length v ≡ 16 → length w ≡ 16
    → k < first_set (mask_l (map (top 7) (zip2 (λ a b. cond (not (eqb a b)) 255 0) v w)) % 2 ^ 64) 16 → get_or v k 0 ≡ get_or w k 0
same_lanes v w k lv lw lt =
    let differ = λ (a b : ℕ). not (eqb a b) in
    let ms = zip2 differ v w in
    let long : length ms ≡ 16 = length-zip2 differ v w (lv ∙ sym lw) ∙ lv in
    let mask : mask_l (map (top 7) (zip2 (λ a b. cond (not (eqb a b)) 255 0) v w)) % 2 ^ 64 ≡ mask_l (map (λ b. b) ms) =
    ap (λ l. mask_l l % 2 ^ 64) (tops_compared w8 differ v w) ∙ mask_l-mod ms 64 (omega (arith, long)) ∙ ap mask_l (sym (same_bits ms)) in
    let run = ap (λ m. first_set m 16) mask ∙ run_of ms 16 long (omega arith) in
    let clear : get_or ms k false ≡ false = not-true _ (prefix_len_passes (λ b. not b) ms k false (omega (arith, run))) in
    let lane : get_or ms k false ≡ not (eqb (get_or v k 0) (get_or w k 0)) = get_or-zip2 differ v w k 0 0 false (omega (arith, run, lv, long, prefix_len-le-length (λ b. not b) ms)) (omega (arith, run, lw, long, prefix_len-le-length (λ b. not b) ms)) in
    eqb-true _ _ (not-false _ (sym lane ∙ clear))
