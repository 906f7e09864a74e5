use Rattle.std.proofs.Common.{◌+◌, [], ◌∷◌, drop, arith}
use Rattle.lin_edn.specs.Grammar.{element}
use Rattle.lin_history.proofs.Maps.{two_in}
use Rattle.lin_history.proofs.values.plain_pair.Goals as goal

pub returns : goal.returns
returns c =
    let s = c.args.text.now in
    let from = c.args.from in
    let inner = from + 1 in
    let key = c.in_ok-key.ensures.key in
    let plain = c.in_ok-plain.ensures.plain in
    let row = c.white_until-at.ensures.row 1 inner (drop inner s) (key.0 ∷ []) (key.3 1) in (
      plain.0,
      plain.1,
      plain.2,
      (
        key.0,
        key.1,
        key.2,
        two_in s from c.white_until-last.result 1 key.0 plain.0 c.in_ok-key.ensures.opens
            (c.white_until-last.ensures.row 1 inner (drop inner s) (key.0 ∷ plain.0 ∷ []) (element row (plain.3 1))) (let h = c.if-last-text.false in omega arith)
            c.if-text-last-ne93.false,
      ),
    )
