use Rattle.std.proofs.Common.{inl, inr, map, refl}
use Rattle.lin_configurations.specs.lemmas.Visiting.{on_any, put_after}
use Rattle.lin_compressed_frontier.proofs.completions.Completion.visit_one.Goals as goal

pub returns-then-is_seen-clause-taken : goal.returns-then-is_seen-clause-taken
returns-then-is_seen-clause-taken g c =
    let found = (rw c.deref.ensures.value at c.is_seen.ensures) c.if-is_seen.true in
    inl (found.0, found.1, found.2, refl)

pub returns-clause-taken : goal.returns-clause-taken
returns-clause-taken g c = on_any c.catch_up.result _ (inr (put_after c.args.reached.config c.args.reached.placed c.args.reached.offers.now c.args.reached.path c.push_next.new.nodes (map (λ m. m.now) c.args.starts.now) c.args.visited.now.items c.push_next.new.members.items c.in_ok-push_next.ensures.put))
