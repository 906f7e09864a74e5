use Rattle.std.proofs.Common.{subst, sym, Bool}
use Rattle.lin_events.specs.declared.items.Item.{Item}
use Rattle.lin_events.specs.declared.calls.Name.{Name}
use Rattle.lin_events.specs.WellFormed.{IsWellFormed}
use Rattle.lin_order.specs.Parts.{events_at}
use Rattle.lin_session.proofs.kept.Object.settle.Goals as goal

pub settle-requires-clause-well_formed : goal.settle-requires-clause-well_formed
settle-requires-clause-well_formed c =
    subst (λ l. (functions : Item → Name → Bool) × IsWellFormed functions (events_at c.args.events.now l)) (sym c.deref.ensures.value) c.requires.well_formed
