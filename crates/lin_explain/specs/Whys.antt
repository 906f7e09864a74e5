-- Why the operations of an object have no legal order, where a certificate is told.
use Rattle.std.specs.Prelude.{◌≡◌, ℕ, List, [], Contains, Option, Some, None, codes, map, option_map}
use Rattle.lin_objects.specs.declared.kinds.Kind.{Kind}
use Rattle.lin_order.specs.Tables.{IsNextTable}
use Rattle.lin_candidates.specs.OwnCertificates.{IsOwn}
use Rattle.lin_certificates.specs.Certificates.{Certifies}
use Rattle.lin_certificates.specs.declared.certificate.Certificate.{Certificate}
use Rattle.lin_certificates.specs.declared.certificate.Certificate.TheVariants as Form
use Rattle.lin_certificate_lines.specs.Groups.{IsListing}
use Rattle.lin_certificate_lines.specs.Reasons.{IsReason}
use Rattle.lin_certificate_lines.specs.declared.told.ObjectEvents.{ObjectEvents as Source}
use Rattle.lin_tables.specs.WindowTables.{Told, position_in}
use Rattle.lin_explain.specs.declared.parts.Why.{Why}

-- the names of the forms
abbrev pub form_name : Certificate → List ℕ
form_name (Form.Shape read) = codes "shape"
form_name (Form.Unwritten operation item) = codes "unwritten"
form_name (Form.Overwritten operation value) = codes "overwritten"
form_name (Form.Stale operation value over held) = codes "stale"
form_name (Form.Crossed value item early late back) = codes "crossed"
form_name (Form.Spent value) = codes "spent"
form_name (Form.Taken item) = codes "taken"
form_name (Form.Passed enqueue later dequeue item other) = codes "passed"
form_name (Form.Inside enqueue dequeue item) = codes "inside"
form_name (Form.Preceded later dequeue item) = codes "preceded"
form_name (Form.Remaining dequeue) = codes "remaining"
form_name (Form.Surplus dequeue items) = codes "surplus"
form_name (Form.Unadded read item) = codes "unadded"
form_name (Form.Lost earlier read item) = codes "lost"
form_name (Form.Split first second item other) = codes "split"
form_name (Form.Late earlier add read item other) = codes "late"
form_name (Form.Twice first second) = codes "twice"
form_name Form.Counted = codes "counted"
form_name (Form.Within calls from to) = codes "within"

-- the same spellings, events, positions and places, with the next event of each one's process
pub record IsSource (stretch : Told) (source : Source) : Type 0 where
  pub names_of : source.names.now ≡ stretch.names
  pub events_of : source.events.now ≡ stretch.events
  pub ends_of : IsNextTable stretch.events source.ends.now
  pub picks_of : source.picks.now ≡ stretch.picks
  pub places_of : option_map (λ p. p.now) source.places ≡ stretch.places

-- The lines tell a certificate that holds of the object's events. Named are just the operations that the lines name; the parts have the name of the
-- form, and where in the whole history these operations were invoked.
pub record IsWhy (kind : Kind) (stretch : Told) (lines named : List ℕ) (why : Why) : Type 0 where
  pub source : Source
  pub certificate : Certificate
  pub mentioned : List ℕ
  pub is_source : IsSource stretch source
  pub holds : Certifies stretch.events kind certificate
  pub tells : IsReason source certificate lines mentioned
  pub all_named : IsListing (Contains mentioned) named
  pub name_of : why.name.now ≡ form_name certificate
  pub calls_of : why.calls.items ≡ map (position_in stretch.picks) named

abbrev pub no_reason_text : List ℕ
no_reason_text = codes "why: no short reason was found\n"

-- a certificate is told; or that none was found, and then nothing is named, and no certificate that the failing operation alone decides holds
abbrev pub IsWhyText : Kind → Told → ℕ → List ℕ → List ℕ → Option Why → Type 0
IsWhyText kind stretch call lines named None = (lines ≡ no_reason_text) × (named ≡ []) × ((c : Certificate) → IsOwn stretch.events call c → Certifies stretch.events kind c → ⊥)
IsWhyText kind stretch call lines named (Some why) = IsWhy kind stretch lines named why
