-- The first bytes of a text that goes on.
use Rattle.std.proofs.Common.{◌≡◌, ◌+◌, ◌<◌, ◌≤◌, ◌++◌, ◌∙◌, ℕ, Bool, true, false, List, ap, arith, length, length-take-le, ltb-false, ltb-true, nat_lt, refl, subst, sym, take}
use Rattle.std.proofs.Math.Seq.{take-append-add}
use Rattle.std.proofs.lemmas.List.{take-append-le, take_all}

-- all of them are there
pub all_there : (first text piece : List ℕ) → first ≡ take 64 text → 64 ≤ length first → first ≡ take 64 (text ++ piece)
all_there first text piece is full = by (nat_lt (length text) 64) refl
  where
    by : (few : Bool) → nat_lt (length text) 64 ≡ few → first ≡ take 64 (text ++ piece)
    by true few =
        let size : length first ≡ length text = ap length (is ∙ take_all 64 text (let lt = ltb-true (length text) 64 few in omega (arith, lt))) in
        let lt = ltb-true (length text) 64 few in
        absurd (omega (arith, size, lt, full))
    by false many = is ∙ sym (take-append-le 64 text piece (ltb-false (length text) 64 many))

-- there is room for some more
pub some_more : (first text piece : List ℕ) (room : ℕ) → first ≡ take 64 text → length first + room ≡ 64 → 0 < room → first ++ take room piece ≡ take 64 (text ++ piece)
some_more first text piece room is size some = by (nat_lt (length text) 64) refl
  where
    by : (few : Bool) → nat_lt (length text) 64 ≡ few → first ++ take room piece ≡ take 64 (text ++ piece)
    by true few =
        let lt = ltb-true (length text) 64 few in
        let whole : first ≡ text = is ∙ take_all 64 text (omega (arith, lt)) in
        let all : length text + room ≡ 64 = ap (λ l. length l + room) (sym whole) ∙ size in
        ap (λ l. l ++ take room piece) whole ∙ sym (take-append-add text piece room) ∙ ap (λ n. take n (text ++ piece)) all
    by false many =
        let full : length first ≡ 64 = ap length is ∙ length-take-le 64 text (ltb-false (length text) 64 many) in
        absurd (omega (arith, full, size, some))

-- as much is put behind them as there is room for, and there is
pub kept : (first text piece : List ℕ) (room more : ℕ) → first ≡ take 64 text → length first + room ≡ 64 → 0 < room → more ≤ room → more ≤ length piece →
    (more < room → more ≡ length piece) → first ++ take more piece ≡ take 64 (text ++ piece)
kept first text piece room more is size some within fits all = ap (λ l. first ++ l) (by (nat_lt more room) refl) ∙ some_more first text piece room is size some
  where
    by : (few : Bool) → nat_lt more room ≡ few → take more piece ≡ take room piece
    by true few =
        let lt = ltb-true more room few in
        let whole : more ≡ length piece = all lt in
        take_all more piece (omega (arith, whole)) ∙ sym (take_all room piece (omega (arith, whole, within)))
    by false many =
        let same : more ≡ room = (let le = ltb-false more room many in omega (arith, le, within)) in
        ap (λ n. take n piece) same
