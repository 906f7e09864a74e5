use Rattle.std.proofs.Common.{arith}
use Rattle.std.proofs.lemmas.Bool.Decides.{Decides-ltb}
use Rattle.lin_certificates.specs.Certificates.{CanLeave, Spent}
use Rattle.lin_certificates.proofs.Deciding.{made}
use Rattle.lin_certificates.proofs.Numbers.{exactly_one}
use Rattle.lin_certificates.proofs.registers.is_spent.Goals as goal

pub returns : goal.returns
returns c =
    let h = c.args.events.now in
    let v = c.args.value in
    let comes = c.count_of-comes.result in
    let goes = c.count_of-goes.result in
    let fewer_is = c.saturating_sub.ensures in
    let begins = c.times_at_beginning.ensures in
    made _ (Decides-ltb comes c.saturating_sub.result)
    (λ less. record { comes = comes; goes = goes; all_come = c.count_of-comes.ensures; all_go = c.count_of-goes.ensures; fewer = omega (arith, less, fewer_is, begins) })
    (λ is.
    let one = exactly_one (CanLeave h v) is.comes comes is.all_come c.count_of-comes.ensures in
    let other = exactly_one (Spent h v) is.goes goes is.all_go c.count_of-goes.ensures in
    let fewer = is.fewer in
    omega (arith, one, other, fewer, fewer_is, begins))
