-- Truth values, and tests of the elements of a list.
use Rattle.std.proofs.Common.{◌≡◌, ◌&&◌, ◌||◌, ℕ, suc, Bool, true, false, not, List, [], ◌∷◌, Contains, refl, sym, ap, ◌∙◌, arith, true≢false}
use Rattle.std.specs.List.{list_any}
use Rattle.std.proofs.lemmas.List.Folds.{list_any_at}

pub and_left : (a b : Bool) → (a && b) ≡ true → a ≡ true
and_left true b h = refl
and_left false b h = absurd (true≢false (sym h))

pub and_right : (a b : Bool) → (a && b) ≡ true → b ≡ true
and_right true b h = h
and_right false b h = absurd (true≢false (sym h))

pub and_both : (a b : Bool) → a ≡ true → b ≡ true → (a && b) ≡ true
and_both true b p q = q
and_both false b p q = absurd (true≢false (sym p))

pub not_true : (b : Bool) → (b ≡ true → ⊥) → not b ≡ true
not_true true h = absurd (h refl)
not_true false h = refl

pub true_not : (b : Bool) → not b ≡ true → b ≡ true → ⊥
true_not true h p = true≢false (sym h)
true_not false h p = true≢false (sym p)

pub left_out : (a b : Bool) → a ≡ true → (a && not b) ≡ false → b ≡ true
left_out true true p h = refl
left_out true false p h = absurd (true≢false h)
left_out false b p h = absurd (true≢false (sym p))

-- one of which the test is true, and the other way round
pub any_true : {A : Type 0} (f : A → Bool) (xs : List A) → list_any f xs ≡ true → (x : A) × Contains xs x × (f x ≡ true)
any_true f [] h = absurd (true≢false (sym h))
any_true {A} f (y ∷ ys) h = by (f y) refl (any_true f ys)
  where
    by : (b : Bool) → f y ≡ b → (list_any f ys ≡ true → (x : A) × Contains ys x × (f x ≡ true)) → (x : A) × Contains (y ∷ ys) x × (f x ≡ true)
    by true e more = (y, (0, omega arith, refl), e)
    by false e more = let r = more (sym (ap (λ b. b || list_any f ys) e) ∙ h) in (r.0, (suc r.1.0, omega (arith, r.1.1), r.1.2), r.2)

pub true_any : {A : Type 0} (f : A → Bool) (xs : List A) (x : A) → Contains xs x → f x ≡ true → list_any f xs ≡ true
true_any f xs x there is = list_any_at f xs there.0 x there.1 (ap f there.2 ∙ is)
