use Rattle.std.proofs.Common.{arith}
use Rattle.std.proofs.lemmas.Bool.Decides.{Decides-ltb}
use Rattle.lin_certificates.specs.Words.{Concerns, MayTakeAhead}
use Rattle.lin_certificates.specs.Certificates.{PutsBefore}
use Rattle.lin_certificates.proofs.Deciding.{both, made}
use Rattle.lin_certificates.proofs.Numbers.{exactly_one}
use Rattle.lin_certificates.proofs.queues.is_surplus.Goals as goal

pub returns : goal.returns
returns c =
    let h = c.args.events.now in
    let d = c.args.dequeue in
    let ns = c.args.items.now in
    let puts = c.count_of_items-puts.result in
    let takes = c.count_of_items-takes.result in
    made _ (both _ _ c.is_among-found.ensures (Decides-ltb takes puts))
    (λ is. record { found = is.0; puts = puts; takes = takes; all_puts = c.count_of_items-puts.ensures; all_takes = c.count_of_items-takes.ensures; fewer = is.1 })
    (λ is.
    let one = exactly_one (λ at. PutsBefore h d at × Concerns h ns at) is.puts puts is.all_puts c.count_of_items-puts.ensures in
    let other = exactly_one (λ at. MayTakeAhead h d at × Concerns h ns at) is.takes takes is.all_takes c.count_of_items-takes.ensures in
    let fewer = is.fewer in
    (is.found, omega (arith, one, other, fewer)))
