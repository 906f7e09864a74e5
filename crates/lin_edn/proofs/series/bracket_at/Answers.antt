use Rattle.std.proofs.Common.{arith}
use Rattle.lin_edn.proofs.Nesting.{vector_opens, list_opens}
use Rattle.lin_edn.proofs.series.bracket_at.Goals as goal

pub returns-in-91-clause-some : goal.returns-in-91-clause-some
returns-in-91-clause-some c =
    let begun = c.requires.begun in
    let inside = c.requires.inside in
    let more = c.if-from-end.false in
    (omega arith, vector_opens c.args.text.now c.args.from (omega arith) c.in-91.is)

pub returns-in-40-clause-some : goal.returns-in-40-clause-some
returns-in-40-clause-some c =
    let begun = c.requires.begun in
    let inside = c.requires.inside in
    let more = c.if-from-end.false in
    (omega arith, list_opens c.args.text.now c.args.from (omega arith) c.in-40.is)
