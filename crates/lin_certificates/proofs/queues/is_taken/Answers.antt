use Rattle.std.proofs.Common.{arith}
use Rattle.std.proofs.lemmas.Bool.Decides.{Decides-ltb}
use Rattle.lin_certificates.specs.Certificates.{CanAdd, TookOut}
use Rattle.lin_certificates.proofs.Numbers.{exactly_one}
use Rattle.lin_certificates.proofs.queues.is_taken.Goals as goal

pub returns : goal.returns
returns c =
    let h = c.args.events.now in
    let n = c.args.item in
    let less = Decides-ltb c.count_of-puts.result c.count_of-takes.result in (
      λ yes'. record { puts = c.count_of-puts.result; takes = c.count_of-takes.result; all_puts = c.count_of-puts.ensures; all_takes = c.count_of-takes.ensures; fewer = less.0 yes' },
      λ is. less.1 (
          let one = exactly_one (CanAdd h n) is.puts c.count_of-puts.result is.all_puts c.count_of-puts.ensures in
          let other = exactly_one (TookOut h n) is.takes c.count_of-takes.result is.all_takes c.count_of-takes.ensures in
          let fewer = is.fewer in
          omega (arith, one, other, fewer)),
    )
