use Rattle.std.proofs.Common.{◌+◌, [], ◌∷◌, drop, arith}
use Rattle.std.specs.List.{slice_range}
use Rattle.lin_edn.specs.Grammar.{empty, element}
use Rattle.lin_edn.specs.Run.{run_value}
use Rattle.lin_edn.specs.Value.{vector, values_of}
use Rattle.lin_history.proofs.Maps.{vector_opens, two_in}
use Rattle.lin_history.proofs.usual.pair_until.Goals as goal

pub returns-clause-value : goal.returns-clause-value
returns-clause-value c = λ far n.
    let s = c.args.text.now in
    let at = c.args.at in
    let inner = at + 1 in
    let white = c.white_until-white.result in
    let second = c.word_until-second.result in
    let v = run_value inner (slice_range s inner c.word_until-first.result) in
    let w = run_value white (slice_range s white second) in
    let a = c.word_until-first.ensures.within.0 in
    let b = c.word_until-second.ensures.within.0 in
    let key = c.word_until-first.ensures.run (omega arith) n in
    let row = c.white_until-white.ensures.row n inner (drop inner s) (v ∷ []) (element empty key) in (
      vector (values_of (v ∷ w ∷ [])),
      two_in s at second n v w (vector_opens s at (omega arith) c.if-text-at-ne91.false) (element row (c.word_until-second.ensures.run (omega arith) n)) (omega arith)
          c.if-text-second-ne93.false,
    )
