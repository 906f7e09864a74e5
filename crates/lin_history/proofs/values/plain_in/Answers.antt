use Rattle.lin_edn.specs.Run.{run_value}
use Rattle.lin_names.specs.Spelled.{seen}
use Rattle.lin_history.proofs.Saying.{said_plain}
use Rattle.lin_history.proofs.values.plain_in.Goals as goal

pub returns : goal.returns
returns c = λ p. said_plain (run_value p c.args.word.now) (seen c.in_ok-item_in.field-0) (c.in_ok-item_in.ensures p)
