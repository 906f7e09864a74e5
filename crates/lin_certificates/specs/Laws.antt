-- What certificates show.
use Rattle.std.specs.Prelude.{List}
use Rattle.lin_events.specs.declared.events.Event.{Event}
use Rattle.lin_objects.specs.declared.kinds.Kind.{Kind}
use Rattle.lin_order.specs.Linearizable.{IsLinearizableAs}
use Rattle.lin_certificates.specs.Certificates.{Certifies}
use Rattle.lin_certificates.specs.declared.certificate.Certificate.{Certificate}

-- operations that a certificate holds of have no legal order
abbrev pub CertificatesExcludeOrders : Type 0
CertificatesExcludeOrders = (h : List Event) (kind : Kind) (c : Certificate) → Certifies h kind c → IsLinearizableAs kind h → ⊥
