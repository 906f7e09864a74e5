use Rattle.std.proofs.Common.{map}
use Rattle.std.proofs.lemmas.List.Elements.{Contains-append_left, Contains-append_right}
use Rattle.lin_compressed_frontier.proofs.completions.Completion.is_seen.Goals as goal

pub returns-then-has_start : goal.returns-then-has_start
returns-then-has_start g c t =
    let found = c.has_start.ensures c.if-has_start.true in
    (found.0, Contains-append_left (map (λ m. m.now) c.args.starts.now) c.args.visited.now found.0 found.1, found.2)

pub returns-else-has_start : goal.returns-else-has_start
returns-else-has_start g c t =
    let found = c.has_visited.ensures t in
    (found.0, Contains-append_right (map (λ m. m.now) c.args.starts.now) c.args.visited.now found.0 found.1, found.2)
