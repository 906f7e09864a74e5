use Rattle.std.proofs.Common.{◌≡◌, ◌<◌, length, arith}
use Rattle.lin_report.proofs.CommandLines.{kept_none, kept_some}
use Rattle.lin_report.proofs.Refusals.{passed_on}
use Rattle.lin_report.proofs.UnderWay.{cut_at_end, finished, finished_with}
use Rattle.lin_report.proofs.runs.EditRun.finish.Goals as goal

pub returns-then-length-eq0-clause-done : goal.returns-then-length-eq0-clause-done
returns-then-length-eq0-clause-done g c = λ start before bytes so_far.
    let none : length c.args.self.now.held.items ≡ 0 = omega (arith, c.args.self.now.held.ok.0, c.len-length.ensures, c.if-length-eq0.true) in
    finished c.args.keyed start before c.args.self.now _ _ bytes _ so_far (kept_none 1048577 c.args.self.now.held.items so_far.rest (omega arith) so_far.holds none) c.ended.ensures

pub returns-then-length-eq0-clause-cut : goal.returns-then-length-eq0-clause-cut
returns-then-length-eq0-clause-cut g c = tt

pub returns-in_err-carry_out-clause-cut : goal.returns-in_err-carry_out-clause-cut
returns-in_err-carry_out-clause-cut g c =
    passed_on c.from_residual.result c.in_err-carry_out.field-0.0 _ c.from_residual.ensures.1
    (λ start before behind bytes end so_far.
    let some : 0 < length c.args.self.now.held.items = omega (arith, c.args.self.now.held.ok.0, c.len-length.ensures, c.if-length-eq0.false) in
    cut_at_end c.args.keyed start before c.args.self.now _ _ _ _ _ behind bytes so_far (kept_some 1048577 c.args.self.now.held.items so_far.rest so_far.holds some) end c.in_err-carry_out.field-0.0
    (c.in_err-carry_out.ensures.cut so_far.state so_far.rest so_far.stands so_far.holds))

pub returns-clause-done : goal.returns-clause-done
returns-clause-done g c = λ start before bytes so_far.
    let some : 0 < length c.args.self.now.held.items = omega (arith, c.args.self.now.held.ok.0, c.len-length.ensures, c.if-length-eq0.false) in
    finished_with c.args.keyed start before c.args.self.now c.carry_out.new.self _ _ _ _ bytes _ so_far (kept_some 1048577 c.args.self.now.held.items so_far.rest so_far.holds some)
    (c.in_ok-carry_out.ensures.done so_far.state so_far.rest so_far.stands so_far.holds) c.ended-2.ensures
