-- Texts of words that are told short.
use Rattle.std.proofs.Common.{◌≡◌, ◌≤◌, ◌&&◌, ℕ, Bool, true, false, List, [], ◌∷◌, ◌++◌, ap, refl, sym, ◌∙◌, append_assoc, codes, drop, length, if◌then◌else◌}
use Rattle.std.proofs.lemmas.Bool.{eq-eqb}
use Rattle.std.proofs.lemmas.Slice.Eq.{bytes_eq-Decides}
use Rattle.std.specs.List.{list_any}
use Rattle.std.specs.Str.{bytes_eq}
use Rattle.lin_tables.specs.Shortening.{is_double, short_text, short_word}
use Rattle.lin_tables.proofs.Letters.{short_whole}

-- the same beginning decides nothing
same_front : (p xs ys : List ℕ) → bytes_eq (p ++ xs) (p ++ ys) ≡ bytes_eq xs ys
same_front [] xs ys = refl
same_front (c ∷ p) xs ys = ap (λ b. b && bytes_eq (p ++ xs) (p ++ ys)) (eq-eqb c c refl) ∙ same_front p xs ys

pub unlike : (s t : List ℕ) → (s ≡ t → ⊥) → false ≡ bytes_eq s t
unlike s t differ = by (bytes_eq s t) refl
  where
    by : (b : Bool) → bytes_eq s t ≡ b → false ≡ b
    by true same = absurd (differ ((bytes_eq-Decides s t).0 same))
    by false other = refl

-- what is behind the same beginning is the same
pub same_rest : (front xs ys : List ℕ) → front ++ xs ≡ front ++ ys → xs ≡ ys
same_rest [] xs ys same = same
same_rest (c ∷ front) xs ys same = same_rest front xs ys (ap (λ l. drop 1 l) same)

-- a text that begins as a short one does is that where the rest is its end
pub ends_alike : (front back text rest last : List ℕ) → text ≡ front ++ rest → rest ≡ codes "..." ++ last → bytes_eq back last ≡ bytes_eq (front ++ codes "..." ++ back) text
ends_alike front back text rest last begins dots =
    sym (same_front (front ++ codes "...") back last)
    ∙ ap (λ l. bytes_eq (front ++ codes "..." ++ back) l) (append_assoc front (codes "...") last ∙ sym (begins ∙ ap (λ l. front ++ l) dots))

-- a spelling that isn't long is told as it stands
pub short_word_whole : (names : List (List ℕ)) (word : List ℕ) → length word ≤ 24 → short_word names word ≡ word
unfolding short_word
short_word_whole names word short = by (list_any (is_double word) names)
  where
    by : (b : Bool) → (if b then word else short_text word) ≡ word
    by true = refl
    by false = short_whole word short

pub short_word_single : (names : List (List ℕ)) (word : List ℕ) → list_any (is_double word) names ≡ false → short_word names word ≡ short_text word
unfolding short_word
short_word_single names word none = ap (λ b. if b then word else short_text word) none

pub short_word_double : (names : List (List ℕ)) (word : List ℕ) → list_any (is_double word) names ≡ true → short_word names word ≡ word
unfolding short_word
short_word_double names word some = ap (λ b. if b then word else short_text word) some
