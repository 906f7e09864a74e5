use Rattle.std.proofs.lemmas.Bool.Decides.{Decides-ltb}
use Rattle.lin_order.specs.lemmas.Lists.{no_since}
use Rattle.lin_order.proofs.RealTime.{before_since}
use Rattle.lin_order.proofs.conditions.is_before.Goals as goal

pub returns-in-Some : goal.returns-in-Some
returns-in-Some c =
    before_since c.args.events.now c.args.earlier c.in-Some.end c.args.later c.in-Some.field-0-1.now c.in-Some.ensures _ (Decides-ltb c.in-Some.end c.args.later)

pub returns-in-None : goal.returns-in-None
returns-in-None c = no_since (λ before. c.in-None.ensures before.0 before.1 before.2)
