use Rattle.lin_queues.specs.Reaching.{informed}
use Rattle.lin_queues.proofs.Going.{told_informed}
use Rattle.lin_queues.proofs.Listing.{elements_on, open_informed, one_longer}
use Rattle.lin_queues.proofs.debts.Debts.inform.Goals as goal

pub returns-clause-next : goal.returns-clause-next
returns-clause-next c = λ event name body functions h well_formed debts.
    let self = c.args.self.now in
    record {
      reached = one_longer h event self.reached debts.reached;
      elements = elements_on h event self.elements debts.elements;
      opened = open_informed h event self.pending.items name body debts.opened;
      left = debts.left;
      told = told_informed c.debts_at_start.ensures.beginning h event c.debts_after_events.ensures.info name body self debts;
      made = λ m there. informed event name body (debts.made m there);
    }
