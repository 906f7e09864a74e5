use Rattle.std.proofs.Common.{arith}
use Rattle.lin_order.specs.lemmas.Lists.{no_since}
use Rattle.lin_certificates.proofs.Deciding.{both, made}
use Rattle.lin_certificates.proofs.Overwriting.{none_over}
use Rattle.lin_certificates.proofs.registers.is_overwritten.Goals as goal

pub returns-in_default : goal.returns-in_default
returns-in_default c = no_since (none_over c.args.events.now c.args.operation c.args.value c.in_default.ensures)

pub returns : goal.returns
returns c =
    let last = c.in-Some.ensures in
    made _ (both _ _ (both _ _ c.is_among-needs.ensures c.has_source-source.ensures) c.all_ahead-each.ensures)
    (λ is. record { needed = is.0.0; source = is.0.1; each = λ other it. (c.in-Some.over, last.0, is.1 other it) })
    (λ is. (
      (is.needed, is.source),
      λ other it.
          let over = is.each other it in
          let latest = last.1 over.0 over.1 in
          (over.2.0, over.2.1, over.2.2, let ends = over.2.3 in omega (arith, ends, latest)),
    ))
