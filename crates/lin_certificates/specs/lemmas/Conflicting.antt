-- The steps of registers, and parts of lists.
use Rattle.std.proofs.Common.{◌≡◌, ◌<◌, ◌+◌, ℕ, zero, suc, List, [], ◌∷◌, ◌++◌, AllPairs, Contains, length, get_or, inl, inr, refl, ap, subst, ◌∙◌, arith, length-append}
use Rattle.std.proofs.lemmas.List.{get_or_append_left, get_or-append-add}
use Rattle.lin_events.specs.declared.calls.Call.{Call}
use Rattle.lin_events.specs.declared.calls.Call.TheVariants.{Read, Write, Cas}
use Rattle.lin_events.specs.declared.calls.Reply.{Reply}
use Rattle.lin_events.specs.declared.calls.Reply.TheVariants as Replied
use Rattle.lin_events.specs.declared.calls.Val.{Val}
use Rattle.lin_objects.specs.declared.kinds.Kind.{Kind}
use Rattle.lin_objects.specs.declared.kinds.Kind.TheVariants.{Register, CasRegister}
use Rattle.lin_objects.specs.declared.states.State.{State}
use Rattle.lin_objects.specs.declared.states.State.TheVariants.{Value}
use Rattle.lin_objects.specs.Steps.{Step}
use Rattle.lin_lists.specs.lemmas.Elements.{first_or_rest, nothing_in}
use Rattle.lin_certificates.specs.Conflicts.{IsRegister}

pub value_is : (v w : Val) → Value v ≡ Value w → v ≡ w
value_is v w e = cc

-- the steps that registers take
pub wrote : (kind : Kind) → IsRegister kind → (s next : State) (w : Val) (reply : Reply) → Step kind s (Write w) next reply → next ≡ Value w
wrote Register is (Value x) next w reply step = step.0
wrote Register is s next w reply step = absurd step
wrote CasRegister is (Value x) next w reply step = step.0
wrote CasRegister is s next w reply step = absurd step
wrote kind is s next w reply step = absurd is

pub set : (kind : Kind) → IsRegister kind → (s next : State) (from to : Val) (reply : Reply) → Step kind s (Cas from to) next reply → next ≡ Value to
set CasRegister is (Value x) next from to reply step = step.1
set CasRegister is s next from to reply step = absurd step
set Register is (Value x) next from to reply step = absurd step
set Register is s next from to reply step = absurd step
set kind is s next from to reply step = absurd is

pub found : (kind : Kind) → IsRegister kind → (s next : State) (reply : Reply) → Step kind s Read next reply → (x : Val) × (s ≡ Value x) × (next ≡ Value x) × (reply ≡ Replied.Value x)
found Register is (Value x) next reply step = (x, refl, step.0, step.1)
found Register is s next reply step = absurd step
found CasRegister is (Value x) next reply step = (x, refl, step.0, step.1)
found CasRegister is s next reply step = absurd step
found kind is s next reply step = absurd is

abbrev pub IsOther : Call → Type 0
IsOther Read = ⊥
IsOther (Write w) = ⊥
IsOther (Cas from to) = ⊥
IsOther call = Unit {0}

pub no_other : (kind : Kind) → IsRegister kind → (s next : State) (call : Call) (reply : Reply) → IsOther call → Step kind s call next reply → ⊥
no_other kind is s next Read reply other step = other
no_other kind is s next (Write w) reply other step = other
no_other kind is s next (Cas from to) reply other step = other
no_other Register is (Value x) next call reply other step = step
no_other Register is s next call reply other step = step
no_other CasRegister is (Value x) next call reply other step = step
no_other CasRegister is s next call reply other step = step
no_other kind is s next call reply other step = is

-- the two lists of which a list is made round one of its elements
pub parted : {A : Type 0} (xs : List A) (y : A) → Contains xs y → (before : List A) × (after : List A) × (xs ≡ before ++ y ∷ after)
parted [] y there = absurd (nothing_in y there)
parted (x ∷ xs) y there = elim (first_or_rest x xs y there) [
  | inl same ↦ ([], xs, ap (λ z. z ∷ xs) same)
  | inr rest ↦ let p = parted xs y rest in (x ∷ p.0, p.1, ap (λ l. x ∷ l) p.2)
]

-- what holds of each pair of elements of a list holds across its two parts
pub across : {A : Type 0} (R : A → A → Type 0) (xs ys : List A) (x y : A) → AllPairs R (xs ++ ys) → Contains xs x → Contains ys y → R x y
across {A} R xs ys x y all in_x in_y =
    let many = length-append xs ys in
    let i = in_x.0 in
    let inside : i < length xs = in_x.1 in
    let j = in_y.0 in
    let within : j < length ys = in_y.1 in
    let both = all i (length xs + j) x (omega (arith, inside)) (omega (arith, many, within)) in
    let there : R x (get_or (xs ++ ys) (length xs + j) x) = subst (λ z. R z (get_or (xs ++ ys) (length xs + j) x)) (get_or_append_left xs ys x i inside ∙ in_x.2) both in
    subst (R x) (get_or-append-add xs ys j x ∙ same_there ys j x y within ∙ in_y.2) there
  where
    same_there : (zs : List A) (k : ℕ) (d e : A) → k < length zs → get_or zs k d ≡ get_or zs k e
    same_there [] k d e within = absurd (omega (arith, within))
    same_there (z ∷ zs) zero d e within = refl
    same_there (z ∷ zs) (suc k) d e within = same_there zs k d e (omega (arith, within))
