use Rattle.std.proofs.Common.{OnOk, subst, sym}
use Rattle.lin_certificate_lines.specs.Reasons.{ArePut, IsReasonOfRegister}
use Rattle.lin_certificate_lines.proofs.Premises.{nothing_put, overwritten_of}
use Rattle.lin_certificate_lines.proofs.registers.put_register_reason.Goals as goal

pub put_overwritten-requires-clause-holds : goal.put_overwritten-requires-clause-holds
put_overwritten-requires-clause-holds c =
    overwritten_of c.args.told.now.events.now c.args.certificate.now c.in-Overwritten.operation c.in-Overwritten.value c.in-Overwritten.is c.requires.holds

pub returns-in-Overwritten : goal.returns-in-Overwritten
returns-in-Overwritten c =
    let told = c.args.told.now in
    subst (λ x. OnOk c.put_overwritten.result (ArePut (IsReasonOfRegister told x) c.args.text.now.items c.put_overwritten.new.text.items c.args.named.now.items c.put_overwritten.new.named.items))
    (sym c.in-Overwritten.is) c.put_overwritten.ensures

pub returns-in_default : goal.returns-in_default
returns-in_default c =
    let a = c.in_default in
    nothing_put c.args.told.now c.args.certificate.now c.args.text.now.items c.args.named.now.items a.not-Shape a.not-Unwritten a.not-Overwritten a.not-Stale a.not-Crossed
