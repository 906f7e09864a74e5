use Rattle.lin_frontier.specs.lemmas.Each.{contains_here}
use Rattle.lin_compressed_frontier.proofs.seen.is_visited_dominated.Goals as goal

pub returns-then-surely_dominates : goal.returns-then-surely_dominates
returns-then-surely_dominates g c t = (
  c.member-item.result,
  contains_here c.args.members.now c.loop-member.member-index c.member-item.result c.loop-member-test.true c.member-item.is,
  c.surely_dominates.ensures c.if-surely_dominates.true,
)
