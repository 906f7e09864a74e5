use Rattle.std.proofs.Common.{map}
use Rattle.lin_frontier.specs.lemmas.Answered.{from_some}
use Rattle.lin_compressed_frontier.proofs.compressed.after_ok.Goals as goal

pub returns-clause-next : goal.returns-clause-next
returns-clause-next g c =
    let made = c.in_ok-push_all_taken_out.ensures in
    let found = rw c.deref.ensures.value at c.in_ok-found.ensures in
    record {
      starts = map (λ m. m.now) c.in_ok-starts.starts.items;
      begun = c.in_ok-starts.ensures;
      found = c.in-Some.found.items;
      searched = from_some _ c.in-Some.is found.found;
      made = made.0;
      taken = made.1;
      both = made.2;
    }
