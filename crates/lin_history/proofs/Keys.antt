-- The values under the keys of a map, entry after entry.
use Rattle.std.proofs.Common.{◌≡◌, ℕ, suc, ◌+◌, ◌<◌, Bool, true, false, ◌||◌, List, [], ◌∷◌, ◌++◌, map, drop, length, get_or, sym, ap, ◌∙◌, refl, arith, drop-cons, true≢false}
use Rattle.lin_edn.specs.Value.{Value, entries_of}
use Rattle.lin_edn.specs.View.{entry_view}
use Rattle.lin_edn.specs.declared.Entry.{Entry}
use Rattle.lin_history.specs.Table.{is_several, under, here}

-- more values are several too
pub still_several : (xs ys zs : List Value) → is_several (xs ++ ys) ≡ true → is_several (xs ++ (ys ++ zs)) ≡ true
still_several [] [] zs h = absurd (true≢false (sym h))
still_several [] (v ∷ []) zs h = absurd (true≢false (sym h))
still_several [] (v ∷ w ∷ ys) zs h = refl
still_several (v ∷ []) [] zs h = absurd (true≢false (sym h))
still_several (v ∷ []) (w ∷ ys) zs h = refl
still_several (v ∷ w ∷ xs) ys zs h = refl

-- the values under a key from an entry on
abbrev pub under_from : List ℕ → ℕ → List Entry → List Value
under_from w k es = under w (entries_of (map entry_view (drop k es)))

under_step : (w : List ℕ) (es : List Entry) (k : ℕ) (d : Entry) → k < length es →
    under_from w k es ≡ here w (entry_view (get_or es k d)).0 (entry_view (get_or es k d)).1 ++ under_from w (k + 1) es
under_step w es k d h = let e : suc k ≡ k + 1 = omega arith in
    ap (λ l. under w (entries_of (map entry_view l))) (drop-cons es k d h)
    ∙ ap (λ n. here w (entry_view (get_or es k d)).0 (entry_view (get_or es k d)).1 ++ under_from w n es) e

-- two values under a key are two under it in the whole map
pub several_in_all : (w : List ℕ) (es : List Entry) (k : ℕ) (d : Entry) (all xs : List Value) → k < length es → d ≡ get_or es k d →
    all ≡ xs ++ under_from w k es → is_several (xs ++ here w (entry_view d).0 (entry_view d).1) ≡ true → is_several all ≡ true
several_in_all w es k d all xs h at whole two =
    let here_is : here w (entry_view (get_or es k d)).0 (entry_view (get_or es k d)).1 ≡ here w (entry_view d).0 (entry_view d).1 =
    ap (λ e. here w (entry_view e).0 (entry_view e).1) (sym at) in
    ap is_several (whole ∙ ap (λ l. xs ++ l) (under_step w es k d h ∙ ap (λ l. l ++ under_from w (k + 1) es) here_is))
    ∙ still_several xs (here w (entry_view d).0 (entry_view d).1) (under_from w (k + 1) es) two

pub one_of_four : (a b c d e f g h : Bool) → (a ≡ true → e ≡ true) → (b ≡ true → f ≡ true) → (c ≡ true → g ≡ true) → (d ≡ true → h ≡ true) →
    (a || b || c || d) ≡ true → (e || f || g || h) ≡ true
one_of_four a b c d true f g h p q r s t = refl
one_of_four a b c d false true g h p q r s t = refl
one_of_four a b c d false false true h p q r s t = refl
one_of_four a b c d false false false true p q r s t = refl
one_of_four true b c d false false false false p q r s t = p refl
one_of_four false true c d false false false false p q r s t = q refl
one_of_four false false true d false false false false p q r s t = r refl
one_of_four false false false true false false false false p q r s t = s refl
one_of_four false false false false false false false false p q r s t = t
