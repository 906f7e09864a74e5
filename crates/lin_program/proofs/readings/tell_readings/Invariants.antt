use Rattle.std.proofs.Common.{take}
use Rattle.lin_program.specs.Readings.{AreTold}
use Rattle.lin_program.proofs.readings.tell_readings.Given as goal

abbrev pub invariant-loop-reading : goal.invariant-loop-reading
invariant-loop-reading g l = AreTold g.S.System.words l.initial.system (take l.reading-index l.readings) l.system
