use Rattle.std.proofs.Common.{◌≡◌, suc, ◌-◌, drop, arith, refl, subst}
use Rattle.std.specs.List.{slice_range}
use Rattle.lin_edn.specs.Grammar.{Element}
use Rattle.lin_edn.specs.Run.{run_value}
use Rattle.lin_history.proofs.usual.usual_value.Goals as goal

pub returns-then-until-at-clause-value : goal.returns-then-until-at-clause-value
returns-then-until-at-clause-value c = λ far.
    (run_value c.args.at (slice_range c.args.text.now c.args.at c.word_until-until.result), (c.word_until-until.ensures.run far c.args.levels, λ run. refl))

pub returns-then-pair-at-clause-value : goal.returns-then-pair-at-clause-value
returns-then-pair-at-clause-value c = λ far.
    let s = c.args.text.now in
    let at = c.args.at in
    let used = c.pair_until-pair.result in
    let some = c.if-levels-gt0.true in
    let none = c.if-until-at.false in
    let one_less : suc (c.args.levels - 1) ≡ c.args.levels = omega arith in
    let pair = c.pair_until-pair.ensures.value far (c.args.levels - 1) in
    (pair.0, (subst (λ n. Element n at (drop at s) pair.0 used (drop used s)) one_less pair.1, λ run. absurd (omega arith)))
