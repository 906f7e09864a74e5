use Rattle.std.proofs.Common.{◌≤◌, arith}
use Rattle.lin_edn.specs.Grammar.{longest, no_blank_yet}
use Rattle.lin_edn.proofs.Rows.{row_plain, bracketless}
use Rattle.lin_edn.proofs.Standing.{white_short}
use Rattle.lin_edn.proofs.series.Series.begin.Goals as goal

pub returns-in-Some-clause-some : goal.returns-in-Some-clause-some
returns-in-Some-clause-some c =
    let s = c.args.text.now in
    let within = c.window-end.ensures.within in
    let short : c.window-end.result ≤ longest = (let e = c.window-end.ensures.short in omega arith) in
    let opens = c.in-Some.ensures.some in
    row_plain s c.white_end-begun.result c.window-end.result c.in-Some.is_vector
    (white_short s 0 c.white_end-begun.result c.window-end.result c.white_end-begun.ensures within no_blank_yet) opens.0 within short opens.1

pub behind_tag-requires-clause-white : goal.behind_tag-requires-clause-white
behind_tag-requires-clause-white c =
    white_short c.args.text.now 0 c.white_end-begun.result c.window-end.result c.white_end-begun.ensures c.window-end.ensures.within no_blank_yet

pub returns-in-None-clause-none : goal.returns-in-None-clause-none
returns-in-None-clause-none c =
    bracketless c.behind_tag.result c.args.text.now c.white_end-begun.result c.window-end.result c.window-end.ensures.whole c.white_end-begun.ensures
    c.in-None.ensures.none
