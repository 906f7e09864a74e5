use Rattle.std.proofs.Common.{map, subst, sym}
use Rattle.lin_formats.specs.Verdicts.{IsVerifyRun}
use Rattle.lin_program.specs.Endings.{IsVerifiedBy}
use Rattle.lin_program.specs.Reporting.{AreReported}
use Rattle.lin_program.specs.Tasks.{IsUnkeyedRun}
use Rattle.lin_report.specs.declared.formats.ReportFormat.TheVariants.{Text}
use Rattle.lin_program.proofs.verify_all.Goals as goal

pub returns-in-Given-clause-verified : goal.returns-in-Given-clause-verified
returns-in-Given-clause-verified g c =
    let names = map (λ n. n.now) c.args.files.now in
    let said = subst (λ order. AreReported g.S.System.words g.S.File.Read.remaining g.S.Commands.Read.remaining c.args.system.now g.S.Out.Write.contents (λ several. IsUnkeyedRun (IsVerifyRun c.args.settings order)) (λ several. Text) names c.report_all.result)
    c.as_bytes.ensures.value c.report_all.ensures.reported in
    subst (λ o. IsVerifiedBy g.S.System.words g.S.File.Read.remaining g.S.Commands.Read.remaining g.S.Out.Write.contents c.args.system.now c.args.settings o names c.report_all.result) (sym c.in-Given.is) said
