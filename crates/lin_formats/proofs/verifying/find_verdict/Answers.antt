use Rattle.std.proofs.Common.{subst}
use Rattle.lin_formats.specs.Verdicts.{IsJudged}
use Rattle.lin_formats.proofs.Judging.{verified}
use Rattle.lin_formats.proofs.verifying.find_verdict.Goals as goal

pub returns-in_ok-judge-in-Whole-clause-found : goal.returns-in_ok-judge-in-Whole-clause-found
returns-in_ok-judge-in-Whole-clause-found g c =
    let read = c.in_ok-history.ensures.read in
    verified c.read_stream.new.names c.judge.new.names c.args.settings c.args.order.now _ _ c.in_ok-history.history c.in-Whole.events c.in_ok-judge-in-Whole.field-0
    c.judge.ensures.begun c.in-Whole.is (read.0, read.1, read.2, read.3, read.4)
    (subst (λ es. IsJudged c.judge.new.names c.args.settings.kind es c.args.order.now c.in_ok-judge-in-Whole.field-0) c.as_slice.ensures.value c.in_ok-judge-in-Whole.ensures.judged)
