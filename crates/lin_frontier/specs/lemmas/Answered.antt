-- What a call's answer says, carried over to its caller.
use Rattle.std.proofs.Common.{◌≡◌, subst, Option, Some, None, Result, Ok, Err, IfOk, IfSome, IfNone}

pub if_ok_weaker : {A E : Type 0} (P Q : A → Type 0) → ((a : A) → P a → Q a) → (r : Result A E) → IfOk r P → IfOk r Q
if_ok_weaker P Q w (Ok a) h = w a h
if_ok_weaker P Q w (Err e) h = h

pub if_some_weaker : {A E : Type 0} (P Q : A → Type 0) → ((a : A) → P a → Q a) → (r : Result (Option A) E) → IfOk r (λ f. IfSome f P) → IfOk r (λ f. IfSome f Q)
if_some_weaker P Q w (Ok (Some a)) h = w a h
if_some_weaker P Q w (Ok None) h = h
if_some_weaker P Q w (Err e) h = h

pub if_none_weaker : {A E : Type 0} (P Q : Type 0) → (P → Q) → (r : Result (Option A) E) → IfOk r (λ f. IfNone f P) → IfOk r (λ f. IfNone f Q)
if_none_weaker P Q w (Ok (Some a)) h = h
if_none_weaker P Q w (Ok None) h = w h
if_none_weaker P Q w (Err e) h = h

pub from_some : {A : Type 0} (P : A → Type 0) {o : Option A} {a : A} → o ≡ Some a → IfSome o P → P a
from_some P is h = subst (λ o. IfSome o P) is h

pub from_none : {A : Type 0} (P : Type 0) {o : Option A} → o ≡ None → IfNone o P → P
from_none P is h = subst (λ o. IfNone o P) is h
