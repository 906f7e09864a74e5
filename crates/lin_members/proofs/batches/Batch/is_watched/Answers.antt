use Rattle.std.proofs.Common.{◌≡◌, subst}
use Rattle.lin_members.specs.Searching.{watched}
use Rattle.lin_members.proofs.Batching.{watched_all}
use Rattle.lin_members.proofs.batches.Batch.is_watched.Goals as goal

pub returns : goal.returns
returns g c all =
    subst (λ l. watched (g.O.SeqObject.observing c.args.object.now) c.args.pending.now l ≡ l) c.self.view_is
    (watched_all (g.O.SeqObject.observing c.args.object.now) c.args.pending.now c.self.inside.processes.items c.self.inside.items.items c.self.invariant ((rw c.as_slice.ensures.value at c.are_watching.ensures) all))
