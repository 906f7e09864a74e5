use Rattle.std.proofs.Common.{refl}
use Rattle.lin_events.specs.declared.calls.Call.TheVariants.{Enqueue, Dequeue}
use Rattle.lin_events.specs.declared.calls.Reply.TheVariants.{Value}
use Rattle.lin_events.specs.declared.calls.Val.TheVariants.{Nil, Item as Held}
use Rattle.lin_order.specs.ConfigurationLaws.{with_event}
use Rattle.lin_queues.proofs.DebtsGoing.{done, enqueued, dequeued, nothing}
use Rattle.lin_queues.proofs.debt_laws.debts_after_ok.Goals as goal

pub returns-clause-enqueued : goal.returns-clause-enqueued
returns-clause-enqueued c functions h event x item name reply whole order d completes is_ok is follows =
    let alternates = (c.well_formed_is_alternating.ensures functions (with_event h event)).0 completes.well_formed in
    enqueued h event whole order is functions alternates x completes.key (Enqueue item) completes.is_open name reply is_ok d follows
    (done h event whole order is functions alternates x completes.key (Enqueue item) completes.is_open name reply is_ok item refl)

pub returns-clause-dequeued : goal.returns-clause-dequeued
returns-clause-dequeued c functions h event x item name whole order d completes is_ok is follows =
    let alternates = (c.well_formed_is_alternating.ensures functions (with_event h event)).0 completes.well_formed in
    dequeued h event whole order is functions alternates x completes.key Dequeue completes.is_open name (Value (Held item)) is_ok d follows item refl

pub returns-clause-nothing : goal.returns-clause-nothing
returns-clause-nothing c functions h event x name whole order d completes is_ok is follows =
    let alternates = (c.well_formed_is_alternating.ensures functions (with_event h event)).0 completes.well_formed in
    nothing h event whole order is functions alternates x completes.key Dequeue completes.is_open name (Value Nil) is_ok d follows refl
