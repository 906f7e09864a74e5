use Rattle.std.proofs.Common.{◌↔◌, IsTrue, sym, subst}
use Rattle.lin_certificates.specs.Certificates.{CertifiesSet}
use Rattle.lin_certificates.proofs.certificate.certifies_set.Goals as goal

pub returns-in-Unadded : goal.returns-in-Unadded
returns-in-Unadded c = subst (λ x. IsTrue c.is_unadded.result ↔ CertifiesSet c.args.events.now x) (sym c.in-Unadded.is) c.is_unadded.ensures

pub returns-in-Lost : goal.returns-in-Lost
returns-in-Lost c = subst (λ x. IsTrue c.is_lost.result ↔ CertifiesSet c.args.events.now x) (sym c.in-Lost.is) c.is_lost.ensures

pub returns-in-Split : goal.returns-in-Split
returns-in-Split c = subst (λ x. IsTrue c.are_split.result ↔ CertifiesSet c.args.events.now x) (sym c.in-Split.is) c.are_split.ensures
