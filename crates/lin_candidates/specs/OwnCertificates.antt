-- Certificates that one operation alone decides: what they name besides is counted, and doesn't have to be found.
use Rattle.std.specs.Prelude.{◌≡◌, ℕ, List}
use Rattle.lin_events.specs.declared.events.Event.{Event}
use Rattle.lin_certificates.specs.Certificates.{TookOut}
use Rattle.lin_certificates.specs.declared.certificate.Certificate.{Certificate}
use Rattle.lin_certificates.specs.declared.certificate.Certificate.TheVariants as Form

-- the certificate is of the operation at the place: it has a reply of another sort, or needs a value that nothing leaves, or one that was
-- overwritten; it took out an item that was taken out too often, or found nothing where more was left; or the calls of a lock are too many
abbrev pub IsOwn : List Event → ℕ → Certificate → Type 0
IsOwn h at (Form.Shape read) = read ≡ at
IsOwn h at (Form.Unwritten operation item) = operation ≡ at
IsOwn h at (Form.Overwritten operation value) = operation ≡ at
IsOwn h at (Form.Taken item) = TookOut h item at
IsOwn h at (Form.Remaining dequeue) = dequeue ≡ at
IsOwn h at Form.Counted = Unit {0}
IsOwn h at _ = ⊥
