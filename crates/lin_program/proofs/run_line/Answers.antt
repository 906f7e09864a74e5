use Rattle.std.proofs.Common.{subst, sym}
use Rattle.lin_program.specs.Endings.{AreToldRefused, MayTellRefused, read_files, reported_files}
use Rattle.lin_program.specs.Readings.{AreReadingsOf}
use Rattle.lin_program.specs.Reporting.{AreAmong}
use Rattle.lin_program.proofs.run_line.Goals as goal

pub returns : goal.returns
returns g c =
    let named = subst (AreReadingsOf (reported_files c.args.line)) (sym c.as_slice.ensures.value) c.carry_out-outcome.ensures.named in
    let noted = subst (AreAmong (read_files c.args.line)) (sym c.as_slice-2.ensures.value) c.carry_out-outcome.ensures.noted in
    let told = subst (λ s. AreToldRefused g.S.System.words g.S.File.Read.remaining s c.tell_readings.new.system c.as_slice-2.result.now c.tell_files.new.system) c.settings_said.ensures c.tell_files.ensures in
    let refused = subst (λ name. MayTellRefused g.S.System.words c.tell_files.new.system name c.tell_refused.new.system) c.pulled_file.ensures c.tell_refused.ensures in (
      c.carry_out-outcome.result,
      c.carry_out-outcome.ensures.outcome,
      c.as_slice.result.now,
      named,
      c.tell_readings.new.system,
      c.tell_readings.ensures,
      c.as_slice-2.result.now,
      noted,
      c.tell_files.new.system,
      told,
      c.tell_refused.new.system,
      refused,
      c.end.ensures,
    )
