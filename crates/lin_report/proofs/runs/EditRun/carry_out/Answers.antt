use Rattle.std.proofs.Common.{Err, ap, ◌∙◌}
use Rattle.lin_report.proofs.Refusals.{passed_on}
use Rattle.lin_report.proofs.UnderWay.{cut_unwritten}
use Rattle.lin_report.proofs.runs.EditRun.carry_out.Goals as goal

pub returns-in-Err-clause-cut : goal.returns-in-Err-clause-cut
returns-in-Err-clause-cut g c = λ before line stands holds.
    let m = c.in_ok-reply.ensures.reply line (c.as_slice.ensures.value ∙ holds) before stands in
    let part = rw c.as_slice-2.ensures.value at c.in-Err.ensures.beginning in
    (m.0, c.in_ok-reply.reply.text.items, c.in_ok-reply.reply.status, m.2, m.1.left_is, part)

pub returns-clause-done : goal.returns-clause-done
returns-clause-done g c = λ before line stands holds.
    let m = c.in_ok-reply.ensures.reply line (c.as_slice.ensures.value ∙ holds) before stands in
    record {
      after = m.0;
      reply = c.in_ok-reply.reply.text.items;
      answer = c.in_ok-reply.reply.status;
      stands = m.1;
      replies = m.2;
      written = rw c.as_slice-2.ensures.value at c.in-Ok.ensures.whole;
      status = c.or-self.ensures;
      emptied = c.clear.ensures.items;
    }

pub returns-in_err-reply-clause-cut : goal.returns-in_err-reply-clause-cut
returns-in_err-reply-clause-cut g c = passed_on c.from_residual.result c.in_err-reply.field-0.0 _ c.from_residual.ensures.1
    (λ before line stands holds.
    let reads = c.in_err-reply.ensures.reads in
    cut_unwritten c.args.keyed _ _ _ _ _ _ before line c.in_err-reply.field-0.0 (λ e. c.in_err-reply.ensures.readers (ap Err e)) (λ e. c.in_err-reply.ensures.pulls (ap Err e) line (c.as_slice.ensures.value ∙ holds)) (reads.0, reads.1, reads.2, λ e. reads.3 (ap Err e)))
