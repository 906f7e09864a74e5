use Rattle.std.proofs.Common.{refl}
use Rattle.lin_events.specs.declared.calls.Call.TheVariants.{Enqueue, Dequeue}
use Rattle.lin_order.specs.ConfigurationLaws.{with_event}
use Rattle.lin_queues.proofs.DebtsGoing.{done, no_other_call, no_other_reply}
use Rattle.lin_queues.proofs.debt_laws.other_ok_is_illegal.Goals as goal

pub returns-clause-call : goal.returns-clause-call
returns-clause-call c functions h event x call name reply whole order completes is_ok is no_put no_get =
    let alternates = (c.well_formed_is_alternating.ensures functions (with_event h event)).0 completes.well_formed in
    no_other_call h event whole order is functions alternates x completes.key call completes.is_open name reply is_ok no_put no_get

pub returns-clause-put : goal.returns-clause-put
returns-clause-put c functions h event x item name reply whole order completes is_ok is other =
    let alternates = (c.well_formed_is_alternating.ensures functions (with_event h event)).0 completes.well_formed in
    other (done h event whole order is functions alternates x completes.key (Enqueue item) completes.is_open name reply is_ok item refl)

pub returns-clause-reply : goal.returns-clause-reply
returns-clause-reply c functions h event x name reply whole order completes is_ok is no_item no_nil =
    let alternates = (c.well_formed_is_alternating.ensures functions (with_event h event)).0 completes.well_formed in
    no_other_reply h event whole order is functions alternates x completes.key Dequeue completes.is_open name reply is_ok refl no_item no_nil
