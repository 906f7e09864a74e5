use Rattle.std.proofs.Common.{Contains, drop, take, subst}
use Rattle.std.proofs.lemmas.List.{take-append-drop}
use Rattle.std.proofs.lemmas.List.Elements.{Contains-append_right}
use Rattle.lin_compressed_frontier.proofs.seen.Seen.has_visited.Goals as goal

pub returns-then-is_visited_dominated : goal.returns-then-is_visited_dominated
returns-then-is_visited_dominated g c t =
    let found = (rw c.suffix_from-rest.ensures at c.is_visited_dominated.ensures) c.if-is_visited_dominated.true in
    let n = c.len.result in
    let all = c.args.visited.now in
    (found.0, subst (λ l. Contains l found.0) (take-append-drop n all) (Contains-append_right (take n all) (drop n all) found.0 found.1), found.2)
