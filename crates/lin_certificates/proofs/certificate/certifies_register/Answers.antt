use Rattle.std.proofs.Common.{◌↔◌, IsTrue, sym, subst}
use Rattle.lin_certificates.specs.Certificates.{CertifiesRegister}
use Rattle.lin_certificates.proofs.certificate.certifies_register.Goals as goal

pub returns-in-Unwritten : goal.returns-in-Unwritten
returns-in-Unwritten c = subst (λ x. IsTrue c.is_unwritten.result ↔ CertifiesRegister c.args.events.now x) (sym c.in-Unwritten.is) c.is_unwritten.ensures
