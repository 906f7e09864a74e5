use Rattle.std.proofs.Common.{OnOk, subst, sym}
use Rattle.lin_certificate_lines.specs.Reasons.{ArePut, IsReason}
use Rattle.lin_certificate_lines.proofs.Premises.{counted_of}
use Rattle.lin_certificate_lines.proofs.reasons.put_any_reason.Goals as goal

pub put_counted-requires-clause-holds : goal.put_counted-requires-clause-holds
put_counted-requires-clause-holds c = counted_of c.args.told.now.events.now c.args.certificate.now c.in-Counted.is c.requires.holds

pub returns-in-Counted : goal.returns-in-Counted
returns-in-Counted c =
    let told = c.args.told.now in
    subst (λ x. OnOk c.put_counted.result (ArePut (IsReason told x) c.args.text.now.items c.put_counted.new.text.items c.args.named.now.items c.put_counted.new.named.items))
    (sym c.in-Counted.is) c.put_counted.ensures

pub returns-in-Within : goal.returns-in-Within
returns-in-Within c =
    let told = c.args.told.now in
    subst (λ x. OnOk c.put_within.result (ArePut (IsReason told x) c.args.text.now.items c.put_within.new.text.items c.args.named.now.items c.put_within.new.named.items))
    (sym c.in-Within.is) c.put_within.ensures
