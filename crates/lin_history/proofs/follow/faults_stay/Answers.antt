use Rattle.lin_history.proofs.Streams.{fault_more}
use Rattle.lin_history.proofs.follow.faults_stay.Goals as goal

pub returns : goal.returns
returns c = λ k s more es o h stream.
    fault_more c.places.ensures.spelled c.places.ensures.passed c.more_bytes.ensures.spelled c.more_bytes.ensures.passed c.more_bytes.ensures.faulty more h stream
