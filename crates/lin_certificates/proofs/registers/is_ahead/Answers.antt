use Rattle.std.proofs.Common.{◌↔◌, ℕ, None, Some, IsTrue, not, sym, subst}
use Rattle.lin_events.specs.declared.calls.Val.TheVariants.{Nil}
use Rattle.lin_order.specs.lemmas.Lists.{no_since}
use Rattle.lin_certificates.specs.Certificates.{CanLeave, IsAhead, IsLeftAhead}
use Rattle.lin_certificates.proofs.Deciding.{made, neither}
use Rattle.lin_certificates.proofs.registers.is_ahead.Goals as goal

pub returns-in-Nil-None : goal.returns-in-Nil-None
returns-in-Nil-None c =
    let h = c.args.events.now in
    let r = not c.is_any.result in
    let none = made _ (neither _ c.is_any.ensures) (λ never (at : ℕ) (can : CanLeave h c.args.value at). never (at, can)) (λ never some. never some.0 some.1) in
    let nil = subst (λ v. IsTrue r ↔ ((at : ℕ) → CanLeave h v at → ⊥)) c.in-Nil-None.is-0 none in
    subst (λ back. IsTrue r ↔ IsAhead h c.args.value c.args.other back) (sym c.in-Nil-None.is-1)
    (subst (λ v. IsTrue r ↔ IsAhead h v c.args.other None) (sym c.in-Nil-None.is-0) nil)

pub returns-in-Item-Some : goal.returns-in-Item-Some
returns-in-Item-Some c =
    let h = c.args.events.now in
    let r = c.is_left_ahead.result in
    let pair = c.in-Item-Some.pair in
    let found = subst (λ v. IsTrue r ↔ IsLeftAhead h v c.args.other pair.0 pair.1) c.in-Item-Some.is-0 c.is_left_ahead.ensures in
    subst (λ back. IsTrue r ↔ IsAhead h c.args.value c.args.other back) (sym c.in-Item-Some.is-1)
    (subst (λ v. IsTrue r ↔ IsAhead h v c.args.other (Some pair)) (sym c.in-Item-Some.is-0) found)

pub returns-in_default : goal.returns-in_default
returns-in_default c = no_since (λ is.
    let h = c.args.events.now in
    let other = c.args.other in
    let nil : IsAhead h Nil other c.args.back = subst (λ v. IsAhead h v other c.args.back) c.in_default.is-0 is in
    subst (IsAhead h Nil other) c.in_default.is-1 nil)
