use Rattle.std.proofs.Common.{[], ◌∷◌, map, subst, sym}
use Rattle.std.proofs.lemmas.List.Elements.{All-nil}
use Rattle.lin_report.specs.Explanations.{IsExplainRun}
use Rattle.lin_report.specs.Reports.{IsCheckRun}
use Rattle.lin_program.specs.Endings.{IsOutcomeOf, IsVerifiedBy, read_files, reported_files}
use Rattle.lin_program.specs.Readings.{AreReadingsOf}
use Rattle.lin_program.specs.Reporting.{AreAmong, AreReported}
use Rattle.lin_program.specs.Tasks.{IsUnkeyedRun, format_among}
use Rattle.lin_report.specs.declared.formats.ReportFormat.TheVariants.{Text}
use Rattle.lin_program.proofs.carry_out.Goals as goal

pub returns-in-Check-clause-outcome : goal.returns-in-Check-clause-outcome
returns-in-Check-clause-outcome g c =
    let named = subst (λ f. AreReported g.S.System.words g.S.File.Read.remaining g.S.Commands.Read.remaining c.args.system.now g.S.Out.Write.contents
    (λ several. IsUnkeyedRun (IsCheckRun c.in-Check.settings (format_among several f))) (λ several. format_among several f)
    (map (λ n. n.now) c.as_slice.result.now) c.report_all.result) c.report_format.ensures c.report_all.ensures.reported in
    let all = subst (λ ns. AreReported g.S.System.words g.S.File.Read.remaining g.S.Commands.Read.remaining c.args.system.now g.S.Out.Write.contents
    (λ several. IsUnkeyedRun (IsCheckRun c.in-Check.settings (format_among several (Rattle.lin_program.specs.Tasks.report_format c.in-Check.format))))
    (λ several. format_among several (Rattle.lin_program.specs.Tasks.report_format c.in-Check.format)) (map (λ n. n.now) ns) c.report_all.result) c.as_slice.ensures.value named in
    subst (λ l. IsOutcomeOf g.S.System.words g.S.File.Read.remaining g.S.Commands.Read.remaining g.S.Out.Write.contents c.args.system.now l c.report_all.result) (sym c.in-Check.is) all

pub returns-in-Verify-clause-outcome : goal.returns-in-Verify-clause-outcome
returns-in-Verify-clause-outcome g c =
    let all = subst (λ ns. IsVerifiedBy g.S.System.words g.S.File.Read.remaining g.S.Commands.Read.remaining g.S.Out.Write.contents c.args.system.now c.in-Verify.settings c.in-Verify.order
    (map (λ n. n.now) ns) c.verify_all.result) c.as_slice-in-Verify.ensures.value c.verify_all.ensures.verified in
    subst (λ l. IsOutcomeOf g.S.System.words g.S.File.Read.remaining g.S.Commands.Read.remaining g.S.Out.Write.contents c.args.system.now l c.verify_all.result) (sym c.in-Verify.is) all

pub returns-in-Explain-clause-outcome : goal.returns-in-Explain-clause-outcome
returns-in-Explain-clause-outcome g c =
    let named = subst (λ f. AreReported g.S.System.words g.S.File.Read.remaining g.S.Commands.Read.remaining c.args.system.now g.S.Out.Write.contents
    (λ several. IsExplainRun c.in-Explain.settings (record { key = c.in-Explain.key; all_keys = c.in-Explain.all_keys; with_order = c.in-Explain.with_order; format = f }))
    (λ several. Text) (c.in-Explain.file.now ∷ []) c.report_all-in-Explain.result)
    c.report_format-in-Explain.ensures c.report_all-in-Explain.ensures.reported in
    subst (λ l. IsOutcomeOf g.S.System.words g.S.File.Read.remaining g.S.Commands.Read.remaining g.S.Out.Write.contents c.args.system.now l c.report_all-in-Explain.result) (sym c.in-Explain.is) named

pub returns-in-Draw-clause-outcome : goal.returns-in-Draw-clause-outcome
returns-in-Draw-clause-outcome g c =
    subst (λ l. IsOutcomeOf g.S.System.words g.S.File.Read.remaining g.S.Commands.Read.remaining g.S.Out.Write.contents c.args.system.now l c.report_all-in-Draw.result) (sym c.in-Draw.is)
    c.report_all-in-Draw.ensures.reported

pub returns-in-Check-clause-named : goal.returns-in-Check-clause-named
returns-in-Check-clause-named g c =
    let named = subst (λ ns. AreReadingsOf (map (λ n. n.now) ns) c.report_all.new.readings.items) c.as_slice.ensures.value c.report_all.ensures.named in
    subst (λ l. AreReadingsOf (reported_files l) c.report_all.new.readings.items) (sym c.in-Check.is) named

pub returns-in-Explain-clause-named : goal.returns-in-Explain-clause-named
returns-in-Explain-clause-named g c =
    subst (λ l. AreReadingsOf (reported_files l) c.report_all-in-Explain.new.readings.items) (sym c.in-Explain.is) c.report_all-in-Explain.ensures.named

pub returns-in-Draw-clause-named : goal.returns-in-Draw-clause-named
returns-in-Draw-clause-named g c =
    subst (λ l. AreReadingsOf (reported_files l) c.report_all-in-Draw.new.readings.items) (sym c.in-Draw.is) c.report_all-in-Draw.ensures.named

pub returns-in-Verify-clause-named : goal.returns-in-Verify-clause-named
returns-in-Verify-clause-named g c = subst (AreReadingsOf (reported_files c.args.line.now)) (sym c.requires.none) (All-nil _)

pub returns-in-Edit-clause-named : goal.returns-in-Edit-clause-named
returns-in-Edit-clause-named g c = subst (AreReadingsOf (reported_files c.args.line.now)) (sym c.requires.none) (All-nil _)

pub returns-in-Check-clause-noted : goal.returns-in-Check-clause-noted
returns-in-Check-clause-noted g c =
    let noted = subst (λ ns. AreAmong (map (λ n. n.now) ns) c.report_all.new.refused.items) c.as_slice.ensures.value c.report_all.ensures.noted in
    subst (λ l. AreAmong (read_files l) c.report_all.new.refused.items) (sym c.in-Check.is) noted

pub returns-in-Explain-clause-noted : goal.returns-in-Explain-clause-noted
returns-in-Explain-clause-noted g c =
    subst (λ l. AreAmong (read_files l) c.report_all-in-Explain.new.refused.items) (sym c.in-Explain.is) c.report_all-in-Explain.ensures.noted

pub returns-in-Draw-clause-noted : goal.returns-in-Draw-clause-noted
returns-in-Draw-clause-noted g c = subst (λ l. AreAmong (read_files l) c.report_all-in-Draw.new.refused.items) (sym c.in-Draw.is) c.report_all-in-Draw.ensures.noted

pub returns-in-Verify-clause-noted : goal.returns-in-Verify-clause-noted
returns-in-Verify-clause-noted g c =
    let noted = subst (λ ns. AreAmong (map (λ n. n.now) ns) c.verify_all.new.refused.items) c.as_slice-in-Verify.ensures.value c.verify_all.ensures.noted in
    subst (λ l. AreAmong (read_files l) c.verify_all.new.refused.items) (sym c.in-Verify.is) noted

pub returns-in-Edit-clause-noted : goal.returns-in-Edit-clause-noted
returns-in-Edit-clause-noted g c = subst (AreAmong (read_files c.args.line.now)) (sym c.requires.unrefused) (All-nil _)
