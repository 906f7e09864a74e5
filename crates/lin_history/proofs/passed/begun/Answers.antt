use Rattle.lin_history.proofs.Counting.{begun_is}
use Rattle.lin_history.proofs.passed.begun.Goals as goal

pub returns-clause-bytes : goal.returns-clause-bytes
returns-clause-bytes c = begun_is c.min-size.result c.copy_from_slice.new.self _ c.args.word.now c.min-size.ensures c.copy_from_slice.ensures.after
