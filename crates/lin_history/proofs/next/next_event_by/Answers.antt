use Rattle.lin_history.proofs.Taking.{spelled_so, said_so}
use Rattle.lin_history.proofs.next.next_event_by.Goals as goal

pub returns-in-Some-clause-says : goal.returns-in-Some-clause-says
returns-in-Some-clause-says c =
    let taken = c.in-Some.ensures.taken in
    let names = c.next_taken.new.names in (
      taken.value,
      taken.at,
      spelled_so c.args.keyed names c.args.text.now c.in-Some.taken taken,
      λ m is. said_so m c.args.keyed names c.args.text.now 0 64 c.in-Some.taken is taken,
    )
