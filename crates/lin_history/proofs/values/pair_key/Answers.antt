use Rattle.std.proofs.Common.{◌+◌, [], ◌∷◌, drop, arith}
use Rattle.lin_edn.specs.Grammar.{element}
use Rattle.lin_history.proofs.Maps.{two_in}
use Rattle.lin_history.proofs.values.pair_key.Goals as goal

pub returns : goal.returns
returns c =
    let s = c.args.text.now in
    let from = c.args.from in
    let inner = from + 1 in
    let key = c.in_ok-key.ensures.key in
    let at = c.white_until-at.result in
    let used = c.nested_until-used.result in
    let a = c.nested_until-used.ensures.within.0 in
    let b = c.if-used-at.false in
    let found = c.nested_until-used.ensures.value (omega arith) in
    let value = found.0 in
    let row = c.white_until-at.ensures.row 62 inner (drop inner s) (key.0 ∷ []) (key.3 62) in (
      value,
      (
        key.0,
        key.1,
        key.2,
        two_in s from c.white_until-last.result 62 key.0 value c.in_ok-key.ensures.opens
            (c.white_until-last.ensures.row 62 inner (drop inner s) (key.0 ∷ value ∷ []) (element row found.1)) (let h = c.if-last-text.false in omega arith)
            c.if-text-last-ne93.false,
      ),
    )
