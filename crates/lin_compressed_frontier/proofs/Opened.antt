-- The operations that are open after an event that ends one of them.
use Rattle.std.proofs.Common.{◌≡◌, ◌⊎◌, ◌+◌, ◌<◌, ◌≤◌, ℕ, suc, zero, Bool, List, [], ◌∷◌, length, Option, Some, None, inl, inr, refl, sym, subst, arith, slice_get}
use Rattle.std.specs.Prelude.{IfSome, IfNone}
use Rattle.std.specs.List.{remove}
use Rattle.lin_events.specs.declared.items.Item.{Item}
use Rattle.lin_events.specs.declared.calls.Name.{Name}
use Rattle.lin_events.specs.declared.calls.Reply.{Reply}
use Rattle.lin_events.specs.declared.events.Body.{Body}
use Rattle.lin_events.specs.declared.events.Body.TheVariants.{Ok, Fail}
use Rattle.lin_events.specs.declared.events.Event.{Event}
use Rattle.lin_events.specs.WellFormed.{Completes}
use Rattle.lin_events.specs.WellFormedLaws.{EndsAreUnique, WellFormedIsAlternating}
use Rattle.lin_order.specs.ConfigurationLaws.{with_event}
use Rattle.lin_frontier.specs.declared.pending.Open.{Open}
use Rattle.lin_frontier.specs.Frontiers.{IsNextEvent, IsPending}
use Rattle.lin_frontier.specs.lemmas.Listing.{pending_returned}

-- an ok and a fail end an operation
abbrev pub Ends : Body → Type 0
Ends body = ((name : Name) × (reply : Reply) × (body ≡ Ok name reply)) ⊎ ((name : Name) × (body ≡ Fail name))

named : (body : Body) → Ends body → (name : Name) × Completes body name
named body (inl ok) = (ok.0, subst (λ b. Completes b ok.0) (sym ok.2) refl)
named body (inr fail) = (fail.0, subst (λ b. Completes b fail.0) (sym fail.1) refl)

-- the others stay open
pub opened_without : WellFormedIsAlternating → EndsAreUnique → (before : List Open) (at : ℕ) (event : Event) (place : ℕ) → ((o : Open) × (slice_get before place ≡ Some o) × (o.process ≡ event.process)) × Ends event.body
    → (after : List Open) → after ≡ remove before place → (functions : Item → Name → Bool) (h : List Event) → IsNextEvent functions h before at event → IsPending (with_event h event) after
opened_without alternating unique before at event place found after is functions h next =
    let name = named event.body found.1 in
    subst (IsPending (with_event h event)) (sym is) (pending_returned alternating unique functions h event before at next name.0 name.1 place found.0.0 found.0.1 found.0.2 found.1)

-- they are no more
pub no_more : (xs : List Open) (i : ℕ) → length (remove xs i) ≤ length xs
no_more [] zero = omega arith
no_more [] (suc i) = omega arith
no_more (x ∷ xs) zero = omega arith
no_more (x ∷ xs) (suc i) = let fewer = no_more xs i in let same : length (remove (x ∷ xs) (suc i)) ≡ suc (length (remove xs i)) = refl in omega arith

-- of what is there more may be said
pub some_weaker : {A : Type 0} (P Q : A → Type 0) → ((a : A) → P a → Q a) → (r : Option A) → IfSome r P → IfSome r Q
some_weaker P Q w (Some a) h = w a h
some_weaker P Q w None h = h

-- what holds of the part, and else of the list, holds of what is taken of them
pub either_holds : {A : Type 0} (P : List Open → Type 0) (view : A → List Open) (part : Option A) (list after : List Open) → IfSome part (λ p. P (view p)) → IfNone part (P list) → IfSome part (λ p. after ≡ view p) → IfNone part (after ≡ list) → P after
either_holds P view (Some p) list after some none is_some is_none = subst P (sym is_some) some
either_holds P view None list after some none is_some is_none = subst P (sym is_none) none
