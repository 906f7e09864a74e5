-- Tests that decide claims decide what is made of these.
use Rattle.std.proofs.Common.{◌↔◌, Bool, true, false, ◌&&◌, not, IsTrue, refl}

pub both : {P Q : Type 0} (a b : Bool) → IsTrue a ↔ P → IsTrue b ↔ Q → IsTrue (a && b) ↔ (P × Q)
both true true p q = (λ yes'. (p.0 refl, q.0 refl), λ is. refl)
both true false p q = (λ no. cc, λ is. q.1 is.1)
both false b p q = (λ no. cc, λ is. p.1 is.0)

pub made : {P Q : Type 0} (a : Bool) → IsTrue a ↔ P → (P → Q) → (Q → P) → IsTrue a ↔ Q
made a decides to from = (λ yes'. to (decides.0 yes'), λ is. decides.1 (from is))

pub neither : {P : Type 0} (a : Bool) → IsTrue a ↔ P → IsTrue (not a) ↔ (P → ⊥)
neither true p = (λ no. cc, λ never. absurd (never (p.0 refl)))
neither false p = (λ yes' is. let wrong = p.1 is in cc, λ never. refl)
