use Rattle.lin_history.proofs.OneStream.{one_stream}
use Rattle.lin_history.proofs.follow.streams_are_unique.Goals as goal

pub returns : goal.returns
returns c = one_stream c.readings_are_unique.ensures.readings c.blanks_are_skipped.ensures
