-- What an engine has to say of the events of one object, and what a cut leaves of it.
use Rattle.std.specs.Prelude.{◌≡◌, ◌≤◌, ◌+◌, ◌*◌, ◌/◌, ℕ, Bool, List, length, min, take}
use Rattle.lin_events.specs.declared.items.Item.{Item}
use Rattle.lin_events.specs.declared.calls.Name.{Name}
use Rattle.lin_events.specs.declared.events.Event.{Event}
use Rattle.lin_events.specs.Operations.{IsEvent}
use Rattle.lin_events.specs.WellFormed.{IsWellFormed}
use Rattle.lin_objects.specs.declared.kinds.Kind.{Kind}
use Rattle.lin_order.specs.Linearizable.{IsLinearizableAs}
use Rattle.lin_engines.specs.Ends.{IsOverAt}
use Rattle.lin_engines.specs.declared.says.Says.{Says}
use Rattle.lin_engines.specs.declared.says.Says.TheVariants.{On, Dead, Over, Gone}

-- the event stands at the place in a well-formed history
pub record IsNext (h : List Event) (place : ℕ) (event : Event) : Type 0 where
  pub well_formed : (functions : Item → Name → Bool) × IsWellFormed functions h
  pub stands : IsEvent h place event

-- with the event at the place the first ones have no legal order
abbrev pub IsFailing : Kind → List Event → ℕ → Type 0
IsFailing kind h place = IsLinearizableAs kind (take (place + 1) h) → ⊥

-- what is said of the event at the place is true
abbrev pub IsTrueOf : Kind → ℕ → List Event → ℕ → Says → Type 0
IsTrueOf kind budget h place On = Unit {0}
IsTrueOf kind budget h place Dead = IsFailing kind h place
IsTrueOf kind budget h place (Over at) = (at ≤ place) × (place ≤ at + 1) × IsOverAt kind budget h at
IsTrueOf kind budget h place Gone = Unit {0}

-- where an engine stands that said so at the place
abbrev pub place_after : ℕ → Says → ℕ
place_after place On = place + 1
place_after place Dead = place
place_after place (Over at) = place
place_after place Gone = place

-- where it stands after a cut: where it was, if that is ahead of the cut, and else at the cut or at the multiple of 64 before it, or between
pub record IsCut (old place new : ℕ) : Type 0 where
  pub no_more : new ≤ min old place
  pub not_far : min old (place / 64 * 64) ≤ new
  pub still : old ≤ place → new ≡ old
