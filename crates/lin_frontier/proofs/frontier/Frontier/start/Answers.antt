use Rattle.std.proofs.Common.{◌∷◌, [], ap, ◌∙◌}
use Rattle.lin_frontier.specs.lemmas.Completed.{frontier_first}
use Rattle.lin_frontier.proofs.frontier.Frontier.start.Goals as goal

pub returns-in-Ok-clause-exact : goal.returns-in-Ok-clause-exact
returns-in-Ok-clause-exact g c =
    let made = c.new.ensures in
    let begins = c.start.ensures in
    frontier_first _ _ c.configurations_at_start.ensures c.insert.new.self.entries c.args.nodes.now
    ((rw c.in_ok-configs.ensures.empty at c.in-Ok.ensures.entries) ∙ ap (λ k. (k, 0) ∷ []) (made ∙ ap (λ s. (s, [])) begins))
