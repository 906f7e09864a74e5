-- What a scan knows of a history: its first events, as many as the scan took in.
use Rattle.std.specs.Prelude.{◌≡◌, ◌+◌, ◌<◌, ◌≤◌, ℕ, List, length, map, take}
use Rattle.lin_events.specs.declared.items.Item.{Item}
use Rattle.lin_events.specs.declared.events.Event.{Event}
use Rattle.lin_events.specs.Operations.{IsEvent}
use Rattle.lin_objects.specs.declared.kinds.Kind.{Kind}
use Rattle.lin_objects.specs.Kinds.{functions_of}
use Rattle.lin_wellformed.specs.declared.scan.Scan.{Scan}
use Rattle.lin_events.specs.declared.shapes.Shape.{Shape}
use Rattle.lin_events.specs.declared.shapes.Shape.TheVariants.{Good, Bad}
use Rattle.lin_events.specs.WellFormed.{IsShape}

-- how many events the scan took in
abbrev pub ready_count : Scan → ℕ
ready_count scan = scan.ready

-- how many of so many events are before the bad one: all, where none is bad
abbrev pub good_count : Shape → ℕ → ℕ
good_count Good count = count
good_count (Bad at cause) count = at

-- the process of each event
abbrev pub processes_of : List Event → List ℕ
processes_of = map (λ (event : Event). event.process)

-- the scan has the shape of the events that it took in; its table has the processes of those before the bad one
pub record IsRight (scan : Scan) (kinds : Item → Kind) (h : List Event) : Type 0 where
  pub within : ready_count scan ≤ length h
  pub shaped : IsShape (functions_of kinds) (take (ready_count scan) h) scan.shape
  pub counted : length scan.table ≡ good_count scan.shape (ready_count scan)
  pub listed : scan.table ≡ processes_of (take (length scan.table) h)

-- the two histories have the same events before the position, and their kinds agree on the keys of these
pub record AgreeBefore (at : ℕ) (kinds other : Item → Kind) (h edited : List Event) : Type 0 where
  pub events : take at h ≡ take at edited
  pub keys : (k : ℕ) (event : Event) → k < at → IsEvent h k event → kinds event.key ≡ other event.key

-- how many of so many events are looked at to find their shape: all, or those up to the bad one
abbrev pub looked_at : Shape → ℕ → ℕ
looked_at Good count = count
looked_at (Bad at cause) count = at + 1
