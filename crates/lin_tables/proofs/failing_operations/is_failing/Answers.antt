use Rattle.std.proofs.Common.{◌≡◌, ◌-◌, length, arith}
use Rattle.lin_order.specs.lemmas.Lists.{no_since}
use Rattle.lin_tables.specs.lemmas.Standing.{failing_since}
use Rattle.lin_tables.proofs.failing_operations.is_failing.Goals as goal

pub returns-in-Some : goal.returns-in-Some
returns-in-Some c =
    let last : c.saturating_sub.result ≡ length c.args.events.now - 1 = omega (arith, c.saturating_sub.ensures) in
    failing_since c.args.events.now c.args.at c.in-Some.end c.saturating_sub.result c.in-Some.ensures last

pub returns-in-None : goal.returns-in-None
returns-in-None c = no_since (λ is. c.in-None.ensures is.0 is.1)
