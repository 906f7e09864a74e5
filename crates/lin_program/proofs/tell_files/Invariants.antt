use Rattle.std.proofs.Common.{take}
use Rattle.lin_program.specs.Endings.{AreToldRefused}
use Rattle.lin_program.proofs.tell_files.Given as goal

abbrev pub invariant-loop-name : goal.invariant-loop-name
invariant-loop-name g l = AreToldRefused g.S.System.words g.S.File.Read.remaining l.settings l.initial.system (take l.name-index l.names) l.system
