use Rattle.std.proofs.Common.{inl, inr}
use Rattle.lin_order.specs.lemmas.Lists.{no_since}
use Rattle.lin_tables.specs.lemmas.Standing.{returned_never}
use Rattle.lin_tables.proofs.counts.is_crashed.Goals as goal

pub returns-in-Returned : goal.returns-in-Returned
returns-in-Returned c = no_since (returned_never c.args.events.now c.args.at c.in-Returned.field-0 (inl (c.in-Returned.field-1.now, c.in-Returned.ensures)))

pub returns-in-Failed : goal.returns-in-Failed
returns-in-Failed c = no_since (returned_never c.args.events.now c.args.at c.in-Failed.field-0 (inr c.in-Failed.ensures))
