-- Places of lists, and answers.
use Rattle.std.proofs.Math.Seq.{take-suc}
use Rattle.std.proofs.Common.{◌≡◌, ℕ, ◌+◌, ◌<◌, List, [], ◌∷◌, ◌++◌, length, ◌↔◌, Bool, true, false, MatchBool, IsTrue, refl, Some, take, get_or, Option, Result, Ok, Err, IfOk, MatchOption, is_some, None, sym, ap, ◌∙◌, add-one}

-- one more of the elements from the left
pub take_more : {A : Type 0} (xs : List A) (i : ℕ) (x : A) → i < length xs → x ≡ get_or xs i x → take (i + 1) xs ≡ take i xs ++ x ∷ []
take_more xs i x inside is = ap (λ k. take k xs) (add-one i) ∙ take-suc xs i x inside ∙ ap (λ y. take i xs ++ y ∷ []) (sym is)

-- what is no `Some` is `None`
pub none_if : {A : Type 0} (o : Option A) → ((x : A) → o ≡ Some x → ⊥) → o ≡ None
none_if None never = refl
none_if (Some x) never = absurd (never x refl)

-- a yes and a no, as answers of a test
pub yes_since : {P : Type 0} → P → IsTrue true ↔ P
yes_since p = (λ yes. p, λ q. refl)

pub no_since : {P : Type 0} → (P → ⊥) → IsTrue false ↔ P
no_since never = (λ no. cc, λ q. absurd (never q))

-- what an `Option` says of its variant
pub said_none : {A : Type 0} (o : Option A) (P : Type 0) (Q : A → Type 0) → MatchOption o P Q → is_some o ≡ false → P
said_none None P Q said none = said
said_none (Some x) P Q said none = cc

pub said_some : {A : Type 0} (o : Option A) (P : Type 0) (Q : A → Type 0) → MatchOption o P Q → is_some o ≡ true → (x : A) × Q x
said_some None P Q said some = cc
said_some (Some x) P Q said some = (x, said)

-- what is said of an `Ok`, and what follows from it
pub if_ok_weaker : {A E : Type 0} (r : Result A E) (P Q : A → Type 0) → ((x : A) → P x → Q x) → IfOk r P → IfOk r Q
if_ok_weaker (Ok x) P Q weaker said = weaker x said
if_ok_weaker (Err e) P Q weaker said = said

-- what an answer says of a yes and of a no
pub said_yes : (b : Bool) (P Q : Type 0) → MatchBool b P Q → b ≡ true → P
said_yes true P Q said yes' = said
said_yes false P Q said yes' = cc

pub said_no : (b : Bool) (P Q : Type 0) → MatchBool b P Q → b ≡ false → Q
said_no true P Q said no' = cc
said_no false P Q said no' = said
