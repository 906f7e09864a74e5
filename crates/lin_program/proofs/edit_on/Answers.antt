use Rattle.lin_formats.specs.Devices.{device_of}
use Rattle.lin_program.proofs.Runs.{edited}
use Rattle.lin_program.proofs.edit_on.Goals as goal

pub returns : goal.returns
returns g c =
    let left = g.R.Read.remaining (device_of c.run-outcome.new.file) in
    let sent = g.S.Commands.Read.remaining (device_of c.run-outcome.new.commands) in
    let out = g.S.Out.Write.contents (device_of c.run-outcome.new.out) in (
      c.commands.result,
      c.commands.ensures,
      c.out.result,
      c.out.ensures,
      left,
      sent,
      out,
      edited g.R.Read.remaining g.S.Commands.Read.remaining g.S.Out.Write.contents c.args.settings (device_of c.new-file.result) c.args.file (device_of c.new.result) c.commands.result
          (device_of c.new-2.result) c.out.result left sent out c.run-outcome.result c.new-file.ensures.device c.new.ensures.device c.new-2.ensures.device c.run-outcome.ensures.ran,
    )
