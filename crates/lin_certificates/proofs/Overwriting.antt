-- Where nothing overwrites, nothing is overwritten.
use Rattle.std.proofs.Common.{ℕ, List}
use Rattle.lin_events.specs.declared.calls.Val.{Val}
use Rattle.lin_events.specs.declared.calls.Val.TheVariants.{Nil, Item as Held}
use Rattle.lin_events.specs.declared.events.Event.{Event}
use Rattle.lin_certificates.specs.Certificates.{IsOverwritten, Overwrites}

pub none_over : (h : List Event) (at : ℕ) (v : Val) → ((over : ℕ) → Overwrites h at over → ⊥) → IsOverwritten h at v → ⊥
none_over h at Nil none is = none is.source.0 is.source.1
none_over h at (Held v) none is = let over = is.each is.source.0 is.source.1 in none over.0 over.1
