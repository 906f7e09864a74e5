use Rattle.std.proofs.Common.{subst}
use Rattle.lin_program.specs.Readings.{AreTold, IsTold}
use Rattle.lin_program.proofs.Runs.{told_all, told_more}
use Rattle.lin_program.proofs.readings.tell_readings.Goals as goal

pub loop-reading-init : goal.loop-reading-init
loop-reading-init g c = AreTold.nothing

pub loop-reading-preserved : goal.loop-reading-preserved
loop-reading-preserved g c =
    let told = subst (λ r. IsTold g.S.System.words c.loop-reading.system r c.tell_reading.new.system) c.reading-item.is c.tell_reading.ensures in
    told_more g.S.System.words _ c.args.readings.now c.loop-reading.reading-index _ _ _ c.loop-reading-test.true c.loop-reading.invariant told

pub returns : goal.returns
returns g c = told_all g.S.System.words _ c.args.readings.now c.loop-reading.reading-index _ c.loop-reading-test.false c.loop-reading.invariant
