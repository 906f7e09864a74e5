use Rattle.lin_embedded.proofs.Reading.{read_none}
use Rattle.lin_embedded.proofs.recorder.Recorder.new.Goals as goal

pub returns : goal.returns
returns c = read_none c.args.settings c.open.result c.new.result c.new-2.result c.open.ensures c.new.ensures c.new-2.ensures.keyed c.new-2.ensures.sees
