-- Room for what was taken out, so that it can be put back without memory.
use Rattle.std.specs.Prelude.{◌≤◌, length, vec_capacity}
use Rattle.lin_locks.specs.declared.sides.Side.{Side}
use Rattle.lin_locks.specs.declared.standings.Standing.{Standing}
use Rattle.lin_locks.specs.inner.Known.{Known, Part}

-- there is room for as much as that
pub record Holds (side : Side) (part : Part) : Type 0 where
  pub opens : length part.opens ≤ vec_capacity side.open
  pub debts : length part.debts ≤ vec_capacity side.debts

pub record HoldsBoth (standing : Standing) (known : Known) : Type 0 where
  pub acquires : Holds standing.acquires known.acquires
  pub releases : Holds standing.releases known.releases

-- there is as much room as before
pub record HasKept (old new : Side) : Type 0 where
  pub opens : vec_capacity old.open ≤ vec_capacity new.open
  pub debts : vec_capacity old.debts ≤ vec_capacity new.debts

pub record HasKeptBoth (old new : Standing) : Type 0 where
  pub acquires : HasKept old.acquires new.acquires
  pub releases : HasKept old.releases new.releases
