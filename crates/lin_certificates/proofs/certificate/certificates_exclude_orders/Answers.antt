use Rattle.lin_certificates.proofs.Laws.{excluded}
use Rattle.lin_certificates.proofs.certificate.certificates_exclude_orders.Goals as goal

pub returns : goal.returns
returns c h kind certificate holds linear = excluded h linear.0 kind certificate holds linear.1
