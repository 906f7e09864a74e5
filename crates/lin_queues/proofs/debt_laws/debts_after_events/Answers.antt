use Rattle.std.proofs.Common.{sym, ◌∙◌}
use Rattle.lin_order.specs.ConfigurationLaws.{with_event}
use Rattle.lin_queues.proofs.DebtsGoing.{quiet, fails}
use Rattle.lin_queues.proofs.debt_laws.debts_after_events.Goals as goal

pub returns-clause-invocation : goal.returns-clause-invocation
returns-clause-invocation c h event call whole order d is_call is follows = quiet h event whole order is (λ name reply e. let both = sym is_call ∙ e in cc) d follows

pub returns-clause-info : goal.returns-clause-info
returns-clause-info c h event name whole order d is_info is follows = quiet h event whole order is (λ other reply e. let both = sym is_info ∙ e in cc) d follows

pub returns-clause-fail : goal.returns-clause-fail
returns-clause-fail c functions h event x call name whole order d completes is_fail is follows =
    fails h event whole order is functions ((c.well_formed_is_alternating.ensures functions (with_event h event)).0 completes.well_formed) x completes.key call completes.is_open name is_fail d follows
