use Rattle.std.proofs.Common.{◌+◌, [], ◌∷◌, drop, arith}
use Rattle.lin_edn.specs.Grammar.{element}
use Rattle.lin_edn.specs.View.{view}
use Rattle.lin_history.proofs.Maps.{two_in}
use Rattle.lin_history.proofs.values.pair_at.Goals as goal

pub returns-clause-pair : goal.returns-clause-pair
returns-clause-pair c =
    let s = c.args.text.now in
    let from = c.args.from in
    let inner = from + 1 in
    let key = c.in_ok-key.ensures.key in
    let value = view c.in_ok-value.value in
    let row = c.white_until-at.ensures.row 1 inner (drop inner s) (key.0 ∷ []) (key.3 1) in (
      key.0,
      key.1,
      key.2,
      two_in s from c.white_until-last.result 1 key.0 value c.in_ok-key.ensures.opens
          (c.white_until-last.ensures.row 1 inner (drop inner s) (key.0 ∷ value ∷ []) (element row c.in_ok-value.ensures.value)) (let h = c.if-last-text.false in omega arith)
          c.if-text-last-ne93.false,
    )
