use Rattle.std.proofs.Common.{◌≡◌, take}
use Rattle.lin_locks.specs.inner.Fillings.{filled}
use Rattle.lin_locks.proofs.standings.list_placed.Given as goal

abbrev pub invariant-loop-place : goal.invariant-loop-place
invariant-loop-place l = l.placed.items ≡ filled (λ k. 0) 0 (take l.place l.order)
