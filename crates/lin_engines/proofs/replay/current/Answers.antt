use Rattle.std.proofs.Common.{◌-◌, length, inr, refl, sym, arith}
use Rattle.std.proofs.lemmas.Option.{slice_get_within}
use Rattle.lin_engines.proofs.replay.current.Goals as goal

pub returns-in-Some-last-clause-some : goal.returns-in-Some-last-clause-some
returns-in-Some-last-clause-some c =
    let all = c.args.checkpoints.now in
    let inside = slice_get_within all (length all - 1) c.in-Some-last.last.now (sym c.in-Some-last.ensures.value) in
    inr (c.in-None.is, length all - 1, c.in-Some-last.last.now, sym c.in-Some-last.ensures.value, omega arith, refl)
