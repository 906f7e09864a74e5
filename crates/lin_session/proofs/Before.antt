-- What an edit leaves of the history before it.
use Rattle.std.proofs.Common.{◌≡◌, ℕ, ◌≤◌, List, [], ◌∷◌, ◌++◌, length, take, refl, sym, set, arith}
use Rattle.std.specs.Prelude.{remove}
use Rattle.std.proofs.lemmas.List.{take-append-le, take-take, take-set, take_at, length-take-le}
use Rattle.lin_events.specs.declared.items.Item.{Item}
use Rattle.lin_events.specs.declared.events.Event.{Event}
use Rattle.lin_objects.specs.declared.kinds.Kind.{Kind}
use Rattle.lin_wellformed.specs.Scans.{AgreeBefore}

-- where no kind changes, the events have to agree
pub AgreeBefore-events : (kinds : Item → Kind) (at : ℕ) (h edited : List Event) → take at h ≡ take at edited → AgreeBefore at kinds kinds h edited
AgreeBefore-events kinds at h edited e = record { events = e; keys = λ k event l stands. refl }

pub take-appended : {A : Type 0} (at : ℕ) (h : List A) (x : A) → at ≡ length h → take at h ≡ take at (h ++ x ∷ [])
take-appended at h x e = sym (take-append-le at h (x ∷ []) (omega arith))

pub take-truncated : {A : Type 0} (n : ℕ) (h : List A) → take n h ≡ take n (take n h)
take-truncated n h = sym (take-take n n h (omega arith))

pub take-replaced : {A : Type 0} (at : ℕ) (h : List A) (x : A) → take at h ≡ take at (set h at x)
take-replaced at h x = sym (take-set h at x)

pub take-removed : {A : Type 0} (at : ℕ) (h : List A) → at ≤ length h → take at h ≡ take at (remove h at)
take-removed at h l = sym (take_at (take at h) _ at (length-take-le at h l))

pub AgreeBefore-none : (kinds other : Item → Kind) (h edited : List Event) → AgreeBefore 0 kinds other h edited
AgreeBefore-none kinds other h edited = record { events = refl; keys = λ k event l stands. absurd (omega arith) }
