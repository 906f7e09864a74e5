use Rattle.std.proofs.Common.{◌+◌, sym, arith}
use Rattle.lin_edn.proofs.Segments.{inside_run}
use Rattle.lin_edn.proofs.shapes.digits_until.Goals as goal

pub returns-then-is_stop-clause-run : goal.returns-then-is_stop-clause-run
returns-then-is_stop-clause-run c = λ far n.
    let le = c.requires.begun in
    let room = c.if-end-from-le-LANES.false in
    let few = c.digits_in-count.ensures.few in
    inside_run c.args.input.now c.args.from (c.args.from + c.digits_in-count.result) c.args.end far (omega arith) c.requires.inside
    c.digits_in-count.ensures.inside (sym c.if-is_stop.ensures) n
