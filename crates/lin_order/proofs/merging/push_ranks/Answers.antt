use Rattle.std.proofs.Common.{◌≡◌, ◌++◌, ◌∷◌, [], max, ap, ◌∙◌, arith}
use Rattle.lin_order.proofs.RankLists.{greatest_more, ranks_more}
use Rattle.lin_order.proofs.merging.push_ranks.Goals as goal

pub loop-placed-preserved : goal.loop-placed-preserved
loop-placed-preserved c =
    let p = c.placed-item.result in
    let i = c.loop-placed.placed-index in
    let greater : c.max-rank.result ≡ max c.loop-placed.rank p.at = c.max-rank.ensures in
    let pushed : c.push.new.self.items ≡ c.loop-placed.ranks.items ++ (max c.loop-placed.rank p.at, c.args.number) ∷ [] =
    c.in_ok-push.ensures.items ∙ ap (λ r. c.loop-placed.ranks.items ++ (r, c.args.number) ∷ []) greater in
    record {
      rank = greater ∙ greatest_more c.args.part.now i p (omega arith) c.placed-item.is c.loop-placed.rank c.loop-placed.invariant.rank;
      ranks = ranks_more c.args.part.now i p (omega arith) c.placed-item.is c.args.number c.loop-placed.rank c.args.ranks.now.items c.loop-placed.ranks.items c.push.new.self.items
          c.loop-placed.invariant.rank c.loop-placed.invariant.ranks pushed;
    }
