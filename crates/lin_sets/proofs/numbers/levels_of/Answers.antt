use Rattle.std.proofs.Common.{◌≡◌, ◌+◌, ◌-◌, Contains, sym, subst, arith}
use Rattle.std.proofs.lemmas.Option.{slice_get-get_or}
use Rattle.lin_sets.specs.Points.{HasFound, number_of}
use Rattle.lin_sets.proofs.Numbering.{levels_put, least_all}
use Rattle.lin_sets.proofs.numbers.levels_of.Goals as goal

pub loop-at-preserved : goal.loop-at-preserved
loop-at-preserved c = record {
  within = let within = c.loop-at.invariant.within in omega (arith, within);
  least = let some = c.loop-at-test.true in
      let within = c.loop-at.invariant.within in
      let after : c.loop-at.at - 1 + 1 ≡ c.loop-at.at = omega (arith, some) in
      levels_put c.args.reads.now (c.loop-at.at - 1) c.loop-at.at after _ (slice_get-get_or c.args.reads.now (c.loop-at.at - 1) c.index-reads-at.result (omega (arith, some, within)))
      c.loop-at.levels.entries c.put_all.new.numbers.entries c.loop-at.invariant.least
      (λ n there. c.in_ok-put_all.ensures.those n (subst (λ l. Contains l n) (sym c.as_slice.ensures.items) there))
      (λ n out. c.in_ok-put_all.ensures.others n (λ there. out (subst (λ l. Contains l n) c.as_slice.ensures.items there)));
}

pub returns : goal.returns
returns c = λ n. least_all (HasFound c.args.reads.now n) c.loop-at.at (number_of c.loop-at.levels.entries n) c.loop-at-test.false (c.loop-at.invariant.least n)
