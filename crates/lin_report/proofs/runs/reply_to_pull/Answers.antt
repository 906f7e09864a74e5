use Rattle.std.proofs.Common.{Err, length, ap, subst, sym, ◌∙◌}
use Rattle.lin_formats.specs.Devices.{device_of}
use Rattle.lin_report.specs.Pulls.{StandsAt}
use Rattle.lin_report.specs.Runs.{pull_text}
use Rattle.lin_report.proofs.runs.reply_to_pull.Goals as goal

pub returns-in_err-refused-clause-reads : goal.returns-in_err-refused-clause-reads
returns-in_err-refused-clause-reads g c =
    let reads = c.in_err-refused.ensures.reads in
    (reads.0, reads.1, reads.2, λ is. reads.3 (ap Err (sym (rw is at c.from_residual.ensures.1))))

pub returns-clause-reply : goal.returns-clause-reply
returns-clause-reply g c = λ keyed before stands.
    let p = c.in_ok-refused.ensures.pulled keyed before stands in
    let left = ap (λ f. g.R.Read.remaining (device_of f)) c.keep_refusal.ensures in (
      p.0,
      subst (StandsAt keyed p.0 c.pull.new.session.present c.pull.new.names c.pull.new.follow) (sym left) p.1,
      (
        c.in_ok-refused.refused,
        p.2,
        c.plain.ensures.text ∙ c.in_ok-pull_line.ensures ∙ ap (pull_text c.in_ok-refused.refused) (c.len.ensures ∙ ap (λ n. length n.history) p.1.present_is),
        c.plain.ensures.status,
      ),
    )
