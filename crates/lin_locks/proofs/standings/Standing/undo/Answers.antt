use Rattle.std.proofs.Common.{◌≡◌, sym, subst}
use Rattle.lin_locks.specs.declared.changes.Change.{Change}
use Rattle.lin_locks.specs.inner.Changes.{undone}
use Rattle.lin_locks.specs.inner.Known.{known_of}
use Rattle.lin_locks.specs.inner.Latest.{latest_in}
use Rattle.lin_locks.proofs.Invoking.{recalled_so}
use Rattle.lin_locks.proofs.standings.Standing.undo.Goals as goal

pub returns-in-Invoked-clause-undone : goal.returns-in-Invoked-clause-undone
returns-in-Invoked-clause-undone c = λ room.
    let old = known_of c.args.self.now in
    let now = known_of c.uninvoke.new.self in
    let latest = latest_in c.recall.new.self in
    subst (λ (change : Change). record now { latest = latest } ≡ undone change old) (sym c.in-Invoked.is)
    (recalled_so old now latest c.in-Invoked.process c.in-Invoked.call c.in-Invoked.before c.uninvoke.ensures.back c.recall.ensures)
