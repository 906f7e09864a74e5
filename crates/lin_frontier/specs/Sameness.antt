-- When two lists of placed operations are one.
use Rattle.std.specs.Prelude.{◌≡◌, ℕ, Bool, true, false, ◌&&◌, nat_eq, List, [], ◌∷◌, Decides}
use Rattle.std.proofs.Common.{refl, sym, ap, ◌∙◌, true≢false}
use Rattle.std.specs.Cmp.Lexicographic.{pointwise}
use Rattle.std.proofs.lemmas.Bool.Decides.{Decides-eqb as Decides-nat_eq}
use Rattle.lin_events.specs.declared.calls.Reply.{Reply}
use Rattle.lin_events.specs.Replies.{reply_Decides}
use Rattle.lin_events.specs.contracts.calls.ReplyPartialEq.TheImpl as ReplyImpl

-- where tests at the elements decide sameness, so does the test of the lists
pub lists_same : {A : Type 0} (E : A → A → Bool) → ((a b : A) → Decides (E a b) (a ≡ b)) → (xs ys : List A) → pointwise E xs ys ≡ true → xs ≡ ys
lists_same E d [] [] h = refl
lists_same E d [] (y ∷ ys) h = absurd (true≢false (sym h))
lists_same E d (x ∷ xs) [] h = absurd (true≢false (sym h))
lists_same E d (x ∷ xs) (y ∷ ys) h = by (E x y) refl (lists_same E d xs ys)
  where
    by : (b : Bool) → E x y ≡ b → (pointwise E xs ys ≡ true → xs ≡ ys) → x ∷ xs ≡ y ∷ ys
    by true e more =
        let first = (d x y).0 e in
        let rest = more (sym (ap (λ b. b && pointwise E xs ys) e) ∙ h) in
        cc
    by false e more = absurd (true≢false (sym h ∙ ap (λ b. b && pointwise E xs ys) e))

pub lists_itself : {A : Type 0} (E : A → A → Bool) → ((a b : A) → Decides (E a b) (a ≡ b)) → (xs : List A) → pointwise E xs xs ≡ true
lists_itself E d [] = refl
lists_itself E d (x ∷ xs) = ap (λ b. b && pointwise E xs xs) ((d x x).1 refl) ∙ lists_itself E d xs

pub lists_Decides : {A : Type 0} (E : A → A → Bool) → ((a b : A) → Decides (E a b) (a ≡ b)) → (xs ys : List A) → Decides (pointwise E xs ys) (xs ≡ ys)
lists_Decides E d xs ys = (lists_same E d xs ys, λ e. ap (λ zs. pointwise E xs zs) (sym e) ∙ lists_itself E d xs)

left_true : (a b : Bool) → (a && b) ≡ true → a ≡ true
left_true true b h = refl
left_true false b h = absurd (true≢false (sym h))

right_true : (a b : Bool) → (a && b) ≡ true → b ≡ true
right_true true b h = h
right_true false b h = absurd (true≢false (sym h))

-- a process with a reply
abbrev pub pair_eq : ℕ × Reply → ℕ × Reply → Bool
pair_eq p q = nat_eq p.0 q.0 && ReplyImpl.ghosts.eq p.1 q.1

pub pair_Decides : (p q : ℕ × Reply) → Decides (pair_eq p q) (p ≡ q)
pair_Decides p q = (
  λ h.
      let d = (Decides-nat_eq p.0 q.0).0 (left_true (nat_eq p.0 q.0) (ReplyImpl.ghosts.eq p.1 q.1) h) in
      let e = (reply_Decides p.1 q.1).0 (right_true (nat_eq p.0 q.0) (ReplyImpl.ghosts.eq p.1 q.1) h) in
      λ i. (d i, e i),
  λ e.
      ap (λ (r : ℕ × Reply). pair_eq p r) (sym e) ∙ ap (λ b. b && ReplyImpl.ghosts.eq p.1 p.1) ((Decides-nat_eq p.0 p.0).1 refl) ∙ (reply_Decides p.1 p.1).1 refl,
)

pub placed_Decides : (xs ys : List (ℕ × Reply)) → Decides (pointwise pair_eq xs ys) (xs ≡ ys)
placed_Decides = lists_Decides pair_eq pair_Decides

-- where states that compare alike are one, configurations that do are one
pub config_same : {S : Type 0} {eq : S → S → Bool} → ((x y : S) → eq x y ≡ true → x ≡ y)
    → (c d : S × List (ℕ × Reply)) → (eq c.0 d.0 && pointwise pair_eq c.1 d.1) ≡ true → c ≡ d
config_same {eq = eq} same c d h =
    let first = same c.0 d.0 (left_true (eq c.0 d.0) (pointwise pair_eq c.1 d.1) h) in
    let second = (placed_Decides c.1 d.1).0 (right_true (eq c.0 d.0) (pointwise pair_eq c.1 d.1) h) in
    λ i. (first i, second i)
