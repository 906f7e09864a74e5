-- Two lists whose elements belong together, place by place.
use Rattle.std.proofs.Common.{◌≡◌, ◌<◌, ◌≤◌, ◌+◌, ℕ, zero, suc, List, [], ◌∷◌, ◌++◌, length, get_or, take, refl, sym, subst, arith}
use Rattle.std.specs.List.{AllZip}
use Rattle.std.proofs.lemmas.List.{take_all, take_more}
use Rattle.lin_lists.specs.lemmas.Taken.{zip_push}

module _ {A B : Type 0} (R : A → B → Type 0) where
  pub zip_at : (xs : List A) (ys : List B) → AllZip R xs ys → (k : ℕ) (d : A) (e : B) → k < length xs → R (get_or xs k d) (get_or ys k e)
  zip_at [] ys zip k d e within = absurd (omega arith)
  zip_at (x ∷ xs) [] zip k d e within = absurd zip
  zip_at (x ∷ xs) (y ∷ ys) zip zero d e within = zip.0
  zip_at (x ∷ xs) (y ∷ ys) zip (suc k) d e within = zip_at xs ys zip.1 k d e (omega arith)

  pub zip_from : (xs : List A) (ys : List B) → length xs ≡ length ys → ((k : ℕ) (d : A) (e : B) → k < length xs → R (get_or xs k d) (get_or ys k e)) → AllZip R xs ys
  zip_from [] [] same each = tt
  zip_from [] (y ∷ ys) same each = let no : 0 ≡ suc (length ys) = same in absurd (omega arith)
  zip_from (x ∷ xs) [] same each = let no : suc (length xs) ≡ 0 = same in absurd (omega arith)
  zip_from (x ∷ xs) (y ∷ ys) same each = (each 0 x y (omega arith), zip_from xs ys (omega arith) (λ k d e within. each (suc k) d e (omega arith)))

  pub zip_length : (xs : List A) (ys : List B) → AllZip R xs ys → length xs ≡ length ys
  zip_length [] [] zip = refl
  zip_length [] (y ∷ ys) zip = absurd zip
  zip_length (x ∷ xs) [] zip = absurd zip
  zip_length (x ∷ xs) (y ∷ ys) zip = let rest = zip_length xs ys zip.1 in omega arith

  pub zip_more : (xs : List A) (ys : List B) (i : ℕ) (x : A) (y : B) → i < length xs → x ≡ get_or xs i x → AllZip R (take i xs) ys → R x y → AllZip R (take (i + 1) xs) (ys ++ y ∷ [])
  zip_more xs ys i x y inside is zip r =
      subst (λ l. AllZip R l (ys ++ y ∷ [])) (sym (take_more xs i x inside)) (zip_push R (take i xs) ys (get_or xs i x) y zip (subst (λ z. R z y) is r))

  pub zip_whole : (xs : List A) (ys : List B) (i : ℕ) → length xs ≤ i → AllZip R (take i xs) ys → AllZip R xs ys
  zip_whole xs ys i all zip = subst (λ l. AllZip R l ys) (take_all i xs all) zip
