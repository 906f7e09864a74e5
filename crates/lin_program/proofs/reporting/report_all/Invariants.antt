use Rattle.std.proofs.Common.{◌≡◌, List, map, take}
use Rattle.lin_formats.specs.Devices.{device_of, failures_of}
use Rattle.lin_texts.specs.declared.status.Status.{Status}
use Rattle.lin_program.specs.Exit.{worst}
use Rattle.lin_program.specs.Readings.{AreReadingsOf}
use Rattle.lin_program.specs.Reporting.{AreAmong, AreReports, IsReportOn}
use Rattle.lin_program.specs.Tasks.{IsTaskRun, format_of, task_among}
use Rattle.lin_program.proofs.reporting.report_all.Given as goal

abbrev pub invariant-loop-name : goal.invariant-loop-name
invariant-loop-name g l =
    (statuses : List Status)
    × AreReports (IsReportOn g.S.System.words g.S.File.Read.remaining g.S.Commands.Read.remaining l.system (IsTaskRun (task_among l.is_named l.task)) (format_of (task_among l.is_named l.task)) l.is_named)
    (g.S.Out.Write.contents (device_of l.initial.out)) (map (λ n. n.now) (take l.name-index l.names)) (g.S.Out.Write.contents (device_of l.out)) statuses
    × (l.worst ≡ worst statuses) × (failures_of l.out ≡ 0)
    × AreReadingsOf (map (λ n. n.now) l.names) l.readings.items × AreAmong (map (λ n. n.now) l.names) l.refused.items
