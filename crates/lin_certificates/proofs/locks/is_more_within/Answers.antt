use Rattle.std.proofs.Common.{arith}
use Rattle.std.proofs.lemmas.Bool.Decides.{Decides-ltb}
use Rattle.lin_certificates.specs.Certificates.{CanWithin, DidWithin}
use Rattle.lin_certificates.proofs.Deciding.{made}
use Rattle.lin_certificates.proofs.Numbers.{exactly_one}
use Rattle.lin_certificates.proofs.locks.is_more_within.Goals as goal

pub returns : goal.returns
returns c =
    let h = c.args.events.now in
    let from = c.args.places.0 in
    let to = c.args.places.1 in
    let did = c.count_of-did.result in
    let can = c.count_of-can.result in
    let fewer_is = c.saturating_sub.ensures in
    made _ (Decides-ltb can c.saturating_sub.result)
    (λ less. record { did = did; can = can; all_did = c.count_of-did.ensures; all_can = c.count_of-can.ensures; more = omega (arith, less, fewer_is) })
    (λ is.
    let one = exactly_one (DidWithin h c.args.calls.0 from to) is.did did is.all_did c.count_of-did.ensures in
    let other = exactly_one (CanWithin h c.args.calls.1 from to) is.can can is.all_can c.count_of-can.ensures in
    let more = is.more in
    omega (arith, one, other, more, fewer_is))
