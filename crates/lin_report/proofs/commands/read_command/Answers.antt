use Rattle.std.proofs.Common.{arith}
use Rattle.lin_names.specs.lemmas.Begins.{agrees_before}
use Rattle.lin_report.specs.Commands.{without_return}
use Rattle.lin_report.proofs.Maps.{rest_is}
use Rattle.lin_report.proofs.WordSenses.{map_read}
use Rattle.lin_report.proofs.commands.read_command.Goals as goal

pub returns-in-Map-clause-read : goal.returns-in-Map-clause-read
returns-in-Map-clause-read c = λ m is.
    let said = c.in_ok-sense_of.ensures.said m.number (agrees_before c.sense_of.new.names c.read_map.new.names m.number c.read_map.ensures.begun is.1) in
    map_read m c.args.line.now c.in-Map.target c.in-Map.from c.read_map.result (omega (arith, c.if-line-gt-LONGEST.false))
    (rw (c.without_return-line.ensures, c.in-Map.is) at said) (rw (c.without_return-line.ensures, rest_is (without_return c.args.line.now) c.in-Map.from) at c.read_map.ensures.read m is)
