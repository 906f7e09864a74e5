use Rattle.lin_frontier.specs.lemmas.Each.{contains_here}
use Rattle.lin_lists.specs.lemmas.Filters.{in_map}
use Rattle.lin_compressed_frontier.proofs.seen.is_start_dominated.Goals as goal

pub returns-then-surely_dominates : goal.returns-then-surely_dominates
returns-then-surely_dominates g c t = (
  c.start-item.result.now,
  in_map (λ m. m.now) c.args.starts.now c.start-item.result (contains_here c.args.starts.now c.loop-start.start-index c.start-item.result c.loop-start-test.true c.start-item.is),
  c.surely_dominates.ensures c.if-surely_dominates.true,
)
