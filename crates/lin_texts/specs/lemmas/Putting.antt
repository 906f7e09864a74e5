-- Texts that are put last, one after another.
use Rattle.std.proofs.Common.{◌≡◌, ◌+◌, ◌<◌, ◌≤◌, ℕ, List, [], ◌∷◌, ◌++◌, length, get_or, take, Result, Ok, Err, OnErr, OnOk, sym, ap, ◌∙◌, append_assoc}
use Rattle.std.specs.List.{flat_map, join_by, IsFirstAndRest}
use Rattle.std.proofs.lemmas.List.{flat_map_more, take_all, take_more}
use Rattle.lin_texts.specs.Fronts.{HasFront}

pub front_trans : (a b c : List ℕ) → HasFront a b → HasFront b c → HasFront a c
front_trans a b c first next = (first.0 ++ next.0, next.1 ∙ ap (λ x. x ++ next.0) first.1 ∙ append_assoc a first.0 next.0)

pub front_of : (a b more : List ℕ) → b ≡ a ++ more → HasFront a b
front_of a b more put = (more, put)

pub front_same : (a b c : List ℕ) → HasFront a b → c ≡ b → HasFront a c
front_same a b c front same = (front.0, same ∙ front.1)

pub on_err : {T E : Type 0} (r : Result T E) (P : Type 0) → P → OnErr r P
on_err (Ok x) P p = tt
on_err (Err e) P p = p

-- one more text was put last
pub put_next : (old last new text more : List ℕ) → last ≡ old ++ text → new ≡ last ++ more → new ≡ old ++ (text ++ more)
put_next old last new text more before put = put ∙ ap (λ l. l ++ more) before ∙ append_assoc old text more

pub put_last : {T E : Type 0} (r : Result T E) (old last new text more : List ℕ) → last ≡ old ++ text → OnOk r (new ≡ last ++ more) → OnOk r (new ≡ old ++ (text ++ more))
put_last (Ok x) old last new text more before put = put_next old last new text more before put
put_last (Err e) old last new text more before put = tt

-- one more piece was put last, behind what divides it from those before
pub one_more_piece : {X : Type 0} (f : X → List ℕ) (between : List ℕ) (xs : List X) (at : ℕ) (x d : X) (start line new : List ℕ)
    → at < length xs → x ≡ get_or xs at d
    → line ≡ start ++ flat_map (λ y. between ++ f y) (take at xs) → new ≡ (line ++ between) ++ f x
    → new ≡ start ++ flat_map (λ y. between ++ f y) (take (at + 1) xs)
one_more_piece {X} f between xs at x d start line new inside is so_far put =
    let g : X → List ℕ = λ y. between ++ f y in
    put ∙ append_assoc line between (f x) ∙ ap (λ l. l ++ g x) so_far ∙ flat_map_more g start (take at xs) x
    ∙ ap (λ y. start ++ flat_map g (take at xs ++ y ∷ [])) is ∙ ap (λ ys. start ++ flat_map g ys) (sym (take_more xs at d inside))

-- all pieces were put last
pub all_pieces : {X : Type 0} (f : X → List ℕ) (between : List ℕ) (all others : List X) (at : ℕ) (x : X) (old start line : List ℕ)
    → IsFirstAndRest all x others → length others ≤ at → start ≡ old ++ f x
    → line ≡ start ++ flat_map (λ y. between ++ f y) (take at others)
    → line ≡ old ++ join_by f between all
all_pieces {X} f between all others at x old start line parts end first so_far =
    let g : X → List ℕ = λ y. between ++ f y in
    so_far ∙ ap (λ ys. start ++ flat_map g ys) (take_all at others end) ∙ ap (λ l. l ++ flat_map g others) first
    ∙ append_assoc old (f x) (flat_map g others) ∙ ap (λ xs. old ++ join_by f between xs) (sym parts.0)
