-- What is known of a lock after some events, apart from how it is kept.
use Rattle.std.specs.Prelude.{ℕ, Bool, List, Option}
use Rattle.lin_locks.specs.declared.latest.Running.{Running}
use Rattle.lin_locks.specs.declared.sides.Debt.{Debt}
use Rattle.lin_locks.specs.declared.sides.Side.{Side}
use Rattle.lin_locks.specs.declared.standings.Standing.{Standing}
use Rattle.lin_locks.specs.inner.Latest.{latest_in}

-- the operations with one of the calls: where those that are open were invoked, and those that are owed
pub record Part : Type 0 where
  pub opens : List ℕ
  pub debts : List Debt

abbrev pub part_of : Side → Part
part_of side = record { opens = side.open.items; debts = side.debts.items }

-- whether it is held, both calls, the order so far, and what each process invoked last
pub record Known : Type 0 where
  pub held : Bool
  pub acquires : Part
  pub releases : Part
  pub order : List (Option ℕ)
  pub latest : ℕ → Option Running

abbrev pub known_of : Standing → Known
known_of standing = record {
  held = standing.held;
  acquires = part_of standing.acquires;
  releases = part_of standing.releases;
  order = standing.order.items;
  latest = latest_in standing.latest;
}
