use Rattle.std.proofs.Common.{sym}
use Rattle.lin_lists.specs.lemmas.Filters.{in_map}
use Rattle.lin_compressed_frontier.proofs.seen.start_dominates.Goals as goal

pub returns-in-Some : goal.returns-in-Some
returns-in-Some g c t =
    let h = c.in-Some.ensures.lookup in
    (c.in-Some.member.now.now, in_map (λ m. m.now) c.args.starts.now c.in-Some.member.now (c.args.at, h.3.0, sym h.1), c.surely_dominates.ensures t)
