use Rattle.std.proofs.Common.{◌≤◌, arith}
use Rattle.lin_edn.proofs.Rows.{row_behind_tag}
use Rattle.lin_edn.proofs.series.behind_tag.Goals as goal

pub returns : goal.returns
returns c =
    let s = c.args.text.now in
    let begun = c.args.begun in
    let until = c.tag_until-until.result in
    let a : begun ≤ until = c.tag_until-until.ensures.within.0 in
    let b = c.if-until-begun.false in
    let opens = c.in_ok-is_vector.ensures.some in
    row_behind_tag s begun until c.white_end-from.result c.args.end c.in_ok-is_vector.is_vector c.requires.white (c.tag_until-until.ensures.tag (omega arith))
    c.white_end-from.ensures opens.0 c.requires.inside.0 c.requires.inside.1 opens.1
