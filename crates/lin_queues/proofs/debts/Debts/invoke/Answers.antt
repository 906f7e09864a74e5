use Rattle.std.proofs.Common.{sym, ap, ◌∙◌, subst}
use Rattle.lin_order.specs.ConfigurationLaws.{with_event}
use Rattle.lin_queues.specs.declared.opens.OpenCall.{OpenCall}
use Rattle.lin_queues.specs.Opens.{AreOpen}
use Rattle.lin_queues.specs.Reaching.{invoked}
use Rattle.lin_queues.proofs.Going.{told_invoked}
use Rattle.lin_queues.proofs.Listing.{elements_on, open_invoked, one_longer}
use Rattle.lin_queues.proofs.debts.Debts.invoke.Goals as goal

pub returns-clause-next : goal.returns-clause-next
returns-clause-next c = λ is event body process functions h well_formed debts.
    let self = c.args.self.now in
    let new : OpenCall = record { process = c.args.process; place = self.reached; call = c.args.call } in
    record {
      reached = one_longer h event self.reached debts.reached;
      elements = elements_on h event self.elements debts.elements;
      opened = subst (AreOpen (with_event h event)) (sym c.in_ok-push.ensures.items)
          (open_invoked h event self.pending.items c.args.call (record { process = c.args.process; place = self.reached; call = c.args.call }) body
          (ap (λ p. record { process = p; place = self.reached; call = c.args.call }) (sym process) ∙ ap (λ n. record { process = event.process; place = n; call = c.args.call }) debts.reached) debts.opened);
      left = debts.left;
      told = told_invoked c.debts_at_start.ensures.beginning h event c.debts_after_events.ensures.invocation c.args.call body self debts;
      made = λ m there. invoked event c.args.call body (debts.made m there);
    }
