use Rattle.lin_report.specs.Commands.{sense_of_line, without_return}
use Rattle.lin_report.proofs.OneCommand.{one_said}
use Rattle.lin_report.proofs.commands.commands_are_unique.Goals as goal

pub returns : goal.returns
returns c = λ m line a b. one_said c.readings_are_unique.ensures.readings m (without_return line) (sense_of_line m.number line) a b
