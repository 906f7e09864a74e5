use Rattle.lin_program.specs.Endings.{AreToldRefused}
use Rattle.lin_program.proofs.Runs.{refused_all, refused_more}
use Rattle.lin_program.proofs.tell_files.Goals as goal

pub loop-name-init : goal.loop-name-init
loop-name-init g c = AreToldRefused.nothing

pub loop-name-preserved : goal.loop-name-preserved
loop-name-preserved g c = refused_more g.S.System.words g.S.File.Read.remaining c.args.settings _ c.args.names.now c.loop-name.name-index _ _ _ c.loop-name-test.true c.loop-name.invariant c.tell_file.ensures

pub returns : goal.returns
returns g c = refused_all g.S.System.words g.S.File.Read.remaining c.args.settings _ c.args.names.now c.loop-name.name-index _ c.loop-name-test.false c.loop-name.invariant
