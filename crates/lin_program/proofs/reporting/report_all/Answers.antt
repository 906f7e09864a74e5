use Rattle.std.proofs.Common.{◌∙◌, ◌++◌, ◌∷◌, [], Bool, Ok, length, map, nat_lt, subst, sym, refl}
use Rattle.std.proofs.lemmas.List.{length-map}
use Rattle.std.proofs.lemmas.List.Elements.{All-nil}
use Rattle.lin_formats.specs.Devices.{device_of}
use Rattle.lin_program.specs.Readings.{AreReadingsOf}
use Rattle.lin_program.specs.Reporting.{AreAmong, AreReports, AreReportedFrom, IsReportOn, Reporting}
use Rattle.lin_program.specs.Tasks.{IsTaskRun, format_of, task_among}
use Rattle.lin_program.proofs.Runs.{kept_among, readings_among, reported_all, reported_more, reported_some, worst_more}
use Rattle.lin_program.proofs.reporting.report_all.Goals as goal

pub loop-name-init : goal.loop-name-init
loop-name-init g c = (
  [],
  AreReports.nothing,
  refl,
  c.new-out.ensures.none,
  subst (AreReadingsOf (map (λ n. n.now) c.args.names.now)) (sym c.requires.none) (All-nil _),
  subst (AreAmong (map (λ n. n.now) c.args.names.now)) (sym c.requires.unrefused) (All-nil _),
)

pub report-requires-clause-writes : goal.report-requires-clause-writes
report-requires-clause-writes g c = c.loop-name.invariant.3

pub returns-in_err-status-clause-named : goal.returns-in_err-status-clause-named
returns-in_err-status-clause-named g c = c.loop-name.invariant.4

pub returns-in_err-status-clause-noted : goal.returns-in_err-status-clause-noted
returns-in_err-status-clause-noted g c = c.loop-name.invariant.5

pub returns-clause-named : goal.returns-clause-named
returns-clause-named g c = c.loop-name.invariant.4

pub returns-clause-noted : goal.returns-clause-noted
returns-clause-noted g c = c.loop-name.invariant.5

pub returns-in_err-status-clause-reported : goal.returns-in_err-status-clause-reported
returns-in_err-status-clause-reported g c =
    let reports : Bool → Reporting = λ b. IsReportOn g.S.System.words g.S.File.Read.remaining g.S.Commands.Read.remaining c.args.system.now
    (IsTaskRun (task_among b c.args.task)) (format_of (task_among b c.args.task)) b in
    let names = c.args.names.now in
    let before = g.S.Out.Write.contents (device_of c.loop-name.out) in
    let after = g.S.Out.Write.contents (device_of c.report.new.out) in
    let from = reported_some (reports (nat_lt 1 (length names))) (g.S.Out.Write.contents (device_of c.new-out.result)) before after names c.loop-name.name-index _ c.loop-name.invariant.0 _
    c.loop-name-test.true c.loop-name.invariant.1 (rw c.among-task.ensures at c.in_err-status.ensures.ran) c.from_residual.result c.from_residual.ensures.1 in
    let started = subst (λ o. AreReportedFrom (reports (nat_lt 1 (length names))) (g.S.Out.Write.contents o) (map (λ n. n.now) names) c.from_residual.result) c.new-out.ensures.device from in (
      c.out.result,
      c.out.ensures,
      subst (λ n. AreReportedFrom (reports (nat_lt 1 n)) (g.S.Out.Write.contents c.out.result) (map (λ n. n.now) names) c.from_residual.result) (sym (length-map names (λ n. n.now))) started,
    )

pub loop-name-preserved : goal.loop-name-preserved
loop-name-preserved g c =
    let statuses = c.loop-name.invariant.0 in
    let status = c.in_ok-status.status in
    let start = g.S.Out.Write.contents (device_of c.new-out.result) in
    let before = g.S.Out.Write.contents (device_of c.loop-name.out) in
    let after = g.S.Out.Write.contents (device_of c.report.new.out) in
    let reports : Reporting = IsReportOn g.S.System.words g.S.File.Read.remaining g.S.Commands.Read.remaining c.args.system.now
    (IsTaskRun (task_among (nat_lt 1 (length c.args.names.now)) c.args.task)) (format_of (task_among (nat_lt 1 (length c.args.names.now)) c.args.task)) (nat_lt 1 (length c.args.names.now)) in
    let ran = rw c.among-task.ensures at c.in_ok-status.ensures.ran in (
      statuses ++ status ∷ [],
      reported_more reports start before after c.args.names.now c.loop-name.name-index _ statuses status c.loop-name-test.true c.loop-name.invariant.1 ran,
      c.worse-worst.ensures ∙ worst_more statuses status c.loop-name.worst c.loop-name.invariant.2,
      c.in_ok-status.ensures.counts,
      readings_among c.args.names.now _ _ _ c.loop-name.name-index _ c.loop-name-test.true c.loop-name.invariant.4 refl c.keep_reading.ensures,
      kept_among c.args.names.now _ _ c.loop-name.name-index _ c.loop-name-test.true c.loop-name.invariant.5 c.keep_if.ensures,
    )

pub returns-clause-reported : goal.returns-clause-reported
returns-clause-reported g c =
    let reports : Bool → Reporting = λ b. IsReportOn g.S.System.words g.S.File.Read.remaining g.S.Commands.Read.remaining c.args.system.now
    (IsTaskRun (task_among b c.args.task)) (format_of (task_among b c.args.task)) b in
    let names = c.args.names.now in
    let before = g.S.Out.Write.contents (device_of c.loop-name.out) in
    let from = reported_all (reports (nat_lt 1 (length names))) (g.S.Out.Write.contents (device_of c.new-out.result)) before names c.loop-name.name-index c.loop-name.invariant.0 c.loop-name.worst
    c.loop-name-test.false c.loop-name.invariant.1 c.loop-name.invariant.2 in
    let started = subst (λ o. AreReportedFrom (reports (nat_lt 1 (length names))) (g.S.Out.Write.contents o) (map (λ n. n.now) names) (Ok c.loop-name.worst)) c.new-out.ensures.device from in (
      c.out.result,
      c.out.ensures,
      subst (λ n. AreReportedFrom (reports (nat_lt 1 n)) (g.S.Out.Write.contents c.out.result) (map (λ n. n.now) names) (Ok c.loop-name.worst)) (sym (length-map names (λ n. n.now))) started,
    )
