use Rattle.std.proofs.Common.{inl, inr, arith}
use Rattle.std.proofs.lemmas.Bool.{cases_lt}
use Rattle.std.proofs.lemmas.Bool.Decides.{Decides-ltb}
use Rattle.lin_certificates.specs.Words.{MayTakeAhead}
use Rattle.lin_certificates.specs.Certificates.{CanAddBelow, PutsBefore, TookBefore}
use Rattle.lin_certificates.proofs.Deciding.{both, made, neither}
use Rattle.lin_certificates.proofs.Numbers.{exactly_one}
use Rattle.lin_certificates.proofs.queues.is_preceded.Goals as goal

pub returns : goal.returns
returns c =
    let h = c.args.events.now in
    let d = c.args.dequeue in
    let n = c.args.item in
    let later = c.args.later in
    let outs = c.count_of-outs.result in
    let early = c.count_of-early.result in
    let puts = c.count_of-puts.result in
    let takes = c.count_of-takes.result in
    made _ (both _ _ (both _ _ (both _ _ c.is_among-took.ensures c.is_among-added.ensures) (neither _ (Decides-ltb outs early))) (Decides-ltb takes puts))
    (λ is. record {
      took = is.0.0.0;
      some_later = is.0.0.1;
      outs = outs;
      early = early;
      puts = puts;
      takes = takes;
      all_outs = c.count_of-outs.ensures;
      all_early = c.count_of-early.ensures;
      all_puts = c.count_of-puts.ensures;
      all_takes = c.count_of-takes.ensures;
      in_turn = elim (cases_lt outs early) [
        | inl less ↦ absurd (is.0.1 less)
        | inr upto ↦ upto
      ];
      fewer = is.1;
    })
    (λ is.
    let one = exactly_one (TookBefore h n d) is.outs outs is.all_outs c.count_of-outs.ensures in
    let two = exactly_one (CanAddBelow h n later) is.early early is.all_early c.count_of-early.ensures in
    let three = exactly_one (PutsBefore h later) is.puts puts is.all_puts c.count_of-puts.ensures in
    let four = exactly_one (MayTakeAhead h d) is.takes takes is.all_takes c.count_of-takes.ensures in
    let turn = is.in_turn in
    let fewer = is.fewer in
    (((is.took, is.some_later), λ less. omega (arith, one, two, turn, less)), omega (arith, three, four, fewer)))
