-- What is spelled with some levels is spelled with more.
use Rattle.std.proofs.Common.{◌≡◌, ℕ, zero, suc, ◌+◌, ◌-◌, ◌≤◌, List, subst, arith}
use Rattle.lin_edn.specs.Grammar.{Discard, discards, Blank, white_byte, comment, discarded, Blanks, no_blank, one_more, Element, run, hash_alone, whole_text, tagged_element, collection, Row, empty, blank, element}
use Rattle.lin_edn.specs.Value.{Value}

mutual
  discard_deeper : {n p q : ℕ} {s t : List ℕ} → Discard n p s q t → Discard (suc n) p s q t
  discard_deeper (discards h d bs e) = discards h d (blanks_deeper bs) (element_deeper e)

  blank_deeper : {n p q : ℕ} {s t : List ℕ} → Blank n p s q t → Blank (suc n) p s q t
  blank_deeper (white_byte i) = white_byte i
  blank_deeper (comment i h) = comment i h
  blank_deeper (discarded d) = discarded (discard_deeper d)

  blanks_deeper : {n p q : ℕ} {s t : List ℕ} → Blanks n p s q t → Blanks (suc n) p s q t
  blanks_deeper no_blank = no_blank
  blanks_deeper (one_more bs b) = one_more (blanks_deeper bs) (blank_deeper b)

  element_deeper : {n p q : ℕ} {s t : List ℕ} {v : Value} → Element n p s v q t → Element (suc n) p s v q t
  element_deeper (run i h) = run i h
  element_deeper (hash_alone i h) = hash_alone i h
  element_deeper (whole_text i h) = whole_text i h
  element_deeper (tagged_element tg h bs e) = tagged_element tg h (blanks_deeper bs) (element_deeper e)
  element_deeper (collection i row m) = collection i (row_deeper row) m

  row_deeper : {n p q : ℕ} {s t : List ℕ} {vs : List Value} → Row n p s vs q t → Row (suc n) p s vs q t
  row_deeper empty = empty
  row_deeper (blank row b) = blank (row_deeper row) (blank_deeper b)
  row_deeper (element row e) = element (row_deeper row) (element_deeper e)

-- what holds with one level more holds with many more
deeper : (P : ℕ → Type 0) → ((n : ℕ) → P n → P (suc n)) → (k n : ℕ) → P n → P (n + k)
deeper P more zero n h = let same : n ≡ n + zero = omega arith in subst P same h
deeper P more (suc k) n h =
    let rest : P (suc n + k) = deeper P more k (suc n) (more n h) in
    let same : suc n + k ≡ n + suc k = omega arith in subst P same rest

deepest : (P : ℕ → Type 0) → ((n : ℕ) → P n → P (suc n)) → (n : ℕ) → n ≤ 64 → P n → P 64
deepest P more n few h = let same : n + (64 - n) ≡ 64 = omega arith in subst P same (deeper P more (64 - n) n h)

pub element_at_top : {n p q : ℕ} {s t : List ℕ} {v : Value} → n ≤ 64 → Element n p s v q t → Element 64 p s v q t
element_at_top {n = n} {p = p} {q = q} {s = s} {t = t} {v = v} few e = deepest (λ m. Element m p s v q t) (λ m h. element_deeper h) n few e

pub blank_at_top : {n p q : ℕ} {s t : List ℕ} → n ≤ 64 → Blank n p s q t → Blank 64 p s q t
blank_at_top {n = n} {p = p} {q = q} {s = s} {t = t} few b = deepest (λ m. Blank m p s q t) (λ m h. blank_deeper h) n few b
