use Rattle.std.proofs.Common.{◌+◌, take}
use Rattle.lin_queues.specs.Ranks.{IsOvertakenAt}
use Rattle.lin_search.proofs.witness.queue_failure.Goals as goal

pub returns-in-None-clause-refuted : goal.returns-in-None-clause-refuted
returns-in-None-clause-refuted c functions formed =
    let events = c.args.events.now in
    let last = c.in-Some.last in
    let overtaken : IsOvertakenAt events last = rw c.in-Some.is at c.in_ok-last.ensures.overtaken in
    c.overtaken_ranks_are_illegal.ensures (take (last + 1) events) overtaken.0 overtaken.1
