use Rattle.std.proofs.Common.{◌≡◌, ◌≤◌, ◌+◌, ◌-◌, None, Some, ap, sym, subst, ◌∙◌, arith}
use Rattle.std.proofs.lemmas.Option.{slice_get-get_or}
use Rattle.lin_sets.specs.Acts.{IsAdd}
use Rattle.lin_sets.specs.Points.{IsLeast, number_of}
use Rattle.lin_sets.proofs.Numbering.{first_put, first_skip}
use Rattle.lin_sets.proofs.numbers.first_adds.Goals as goal
use Rattle.lin_sets.proofs.numbers.first_adds.Goals.{in-Some+in_ok-put, in_default}

pub loop-at-preserved : goal.loop-at-preserved
loop-at-preserved c =
    let adds = c.args.adds.now in
    let at = c.loop-at.at - 1 in
    let some = c.loop-at-test.true in
    let within = c.loop-at.invariant.within in
    let after : at + 1 ≡ c.loop-at.at = omega (arith, some) in
    record {
      within = omega (arith, within);
      least = λ n. elim c.match-adds-at.branch [
        | in-Some+in_ok-put w ↦ subst (λ m. IsLeast (λ k. (at ≤ k) × IsAdd adds k n) (number_of m.entries n)) (sym w.first-is)
            (first_put adds at c.loop-at.at after w.in-Some.item (slice_get-get_or adds at None (omega (arith, some, within)) ∙ ap Some w.in-Some.is)
            c.loop-at.first.entries w.put.new.numbers.entries c.loop-at.invariant.least w.in_ok-put.ensures n)
        | in_default w ↦ subst (λ m. IsLeast (λ k. (at ≤ k) × IsAdd adds k n) (number_of m.entries n)) (sym w.first-is)
            (first_skip adds at c.loop-at.at after w.in_default.not-Some c.loop-at.first.entries c.loop-at.invariant.least n)
      ];
    }
