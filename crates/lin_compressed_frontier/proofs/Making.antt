-- What is made of the elements of a list, from the left.
use Rattle.std.proofs.Common.{◌≡◌, ℕ, zero, suc, drop, set, ◌+◌, ◌<◌, ◌≤◌, List, [], ◌∷◌, ◌++◌, length, Contains, inl, inr, refl, sym, ap, subst, ◌∙◌, arith, append_assoc, get_or, take, map, Bool, true, false, cond, IsTrue, ◌↔◌, true≢false}
use Rattle.std.proofs.lemmas.List.{append-nil, map-append, take_more, take_all}
use Rattle.std.proofs.lemmas.List.Elements.{Contains-push, Contains-push_cases, Contains-append_left}
use Rattle.lin_members.specs.Searching.{IsMade, IsMadeOne}

-- a value that equals what was to be made was put last
pub made_one : {B : Type 0} (P : Type 0) (y n : B) (old now : List B) → P → n ≡ y → now ≡ old ++ n ∷ [] → IsMadeOne P y old now
made_one P y n old now p is pushed = inl (p, pushed ∙ ap (λ k. old ++ k ∷ []) is)

-- a value was put last just where a test says so, of values that are told by others
pub made_if : {B C : Type 0} (f : C → B) (P : Type 0) (x : C) (b : Bool) (old now : List C) → IsTrue b ↔ P → now ≡ cond b (old ++ x ∷ []) old → IsMadeOne P (f x) (map f old) (map f now)
made_if f P x true old now test is = inl (test.0 refl, ap (map f) is ∙ map-append f old (x ∷ []))
made_if f P x false old now test is = inr ((λ p. true≢false (sym (test.1 p))), ap (map f) is)

module _ {A B : Type 0} (P : A → Type 0) (make : A → B) where
  pub made_none : (ys : List B) → ys ≡ [] → IsMade P make [] ys
  made_none ys none = record {
    sound = λ y there. absurd (let empty = ap length none in let inside = there.1 in omega arith);
    complete = λ x there. absurd (let inside = there.1 in omega arith);
  }

  pub made_push : (xs : List A) (x : A) (ys now : List B) → IsMadeOne (P x) (make x) ys now → IsMade P make xs ys → IsMade P make (xs ++ x ∷ []) now
  made_push xs x ys now one h = elim one [
    | inl put ↦ record {
      sound = λ y there. elim (Contains-push_cases ys (make x) y (subst (λ l. Contains l y) put.1 there)) [
        | inl before ↦ let s = h.sound y before in (s.0, Contains-append_left xs (x ∷ []) s.0 s.1, s.2, s.3)
        | inr same ↦ (x, Contains-push xs x, put.0, sym same)
      ];
      complete = λ a there p. subst (λ l. Contains l (make a)) (sym put.1) (elim (Contains-push_cases xs x a there) [
        | inl before ↦ Contains-append_left ys (make x ∷ []) (make a) (h.complete a before p)
        | inr same ↦ subst (λ b. Contains (ys ++ make x ∷ []) (make b)) same (Contains-push ys (make x))
      ]);
    }
    | inr left ↦ record {
      sound = λ y there. let s = h.sound y (subst (λ l. Contains l y) left.1 there) in (s.0, Contains-append_left xs (x ∷ []) s.0 s.1, s.2, s.3);
      complete = λ a there p. subst (λ l. Contains l (make a)) (sym left.1) (elim (Contains-push_cases xs x a there) [
        | inl before ↦ h.complete a before p
        | inr same ↦ absurd (left.0 (subst P (sym same) p))
      ]);
    }
  ]

  pub made_more : (xs : List A) (i : ℕ) (x : A) (ys now : List B) → i < length xs → x ≡ get_or xs i x → IsMadeOne (P x) (make x) ys now → IsMade P make (take i xs) ys → IsMade P make (take (i + 1) xs) now
  made_more xs i x ys now inside is one h =
      subst (λ l. IsMade P make l now) (sym (take_more xs i x inside ∙ ap (λ y. take i xs ++ y ∷ []) (sym is))) (made_push (take i xs) x ys now one h)

  pub made_all : (xs : List A) (i : ℕ) (ys : List B) → length xs ≤ i → IsMade P make (take i xs) ys → IsMade P make xs ys
  made_all xs i ys past h = subst (λ l. IsMade P make l ys) (take_all i xs past) h

  -- the same, put behind others
  abbrev pub IsMadeBehind : List B → List A → List B → Type 0
  IsMadeBehind old xs now = (made : List B) × IsMade P make xs made × (now ≡ old ++ made)

  pub behind_none : (old : List B) → IsMadeBehind old [] old
  behind_none old = ([], made_none [] refl, sym (append-nil old))

  pub behind_more : (old : List B) (xs : List A) (i : ℕ) (x : A) (now then' : List B) → i < length xs → x ≡ get_or xs i x → IsMadeOne (P x) (make x) now then' → IsMadeBehind old (take i xs) now → IsMadeBehind old (take (i + 1) xs) then'
  behind_more old xs i x now then' inside is one h = elim one [
    | inl put ↦ (h.0 ++ make x ∷ [], made_more xs i x h.0 (h.0 ++ make x ∷ []) inside is (inl (put.0, refl)) h.1, put.1 ∙ ap (λ l. l ++ make x ∷ []) h.2 ∙ append_assoc old h.0 (make x ∷ []))
    | inr left ↦ (h.0, made_more xs i x h.0 h.0 inside is (inr (left.0, refl)) h.1, left.1 ∙ h.2)
  ]

  pub behind_all : (old : List B) (xs : List A) (i : ℕ) (now : List B) → length xs ≤ i → IsMadeBehind old (take i xs) now → IsMadeBehind old xs now
  behind_all old xs i now past h = subst (λ l. IsMadeBehind old l now) (take_all i xs past) h

-- a list whose first elements are written over
written_here : {A : Type 0} (f : A → A) (xs : List A) (i : ℕ) (d : A) → i < length xs → set (map f (take i xs) ++ drop i xs) i (f (get_or (map f (take i xs) ++ drop i xs) i d)) ≡ map f (take (suc i) xs) ++ drop (suc i) xs
written_here f [] i d inside = absurd (omega arith)
written_here f (x ∷ xs) zero d inside = refl
written_here f (x ∷ xs) (suc i) d inside = ap (λ l. f x ∷ l) (written_here f xs i d (omega arith))

pub written_next : {A : Type 0} (f : A → A) (xs : List A) (i : ℕ) (d : A) → i < length xs → set (map f (take i xs) ++ drop i xs) i (f (get_or (map f (take i xs) ++ drop i xs) i d)) ≡ map f (take (i + 1) xs) ++ drop (i + 1) xs
written_next f xs i d inside = let one : suc i ≡ i + 1 = omega arith in written_here f xs i d inside ∙ ap (λ n. map f (take n xs) ++ drop n xs) one

pub written_all : {A : Type 0} (f : A → A) (xs : List A) (i : ℕ) → length xs ≤ i → map f (take i xs) ++ drop i xs ≡ map f xs
written_all f [] zero past = refl
written_all f [] (suc i) past = refl
written_all f (x ∷ xs) zero past = absurd (omega arith)
written_all f (x ∷ xs) (suc i) past = ap (λ l. f x ∷ l) (written_all f xs i (omega arith))
