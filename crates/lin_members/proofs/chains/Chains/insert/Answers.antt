use Rattle.std.proofs.Common.{◌∙◌, ◌++◌, ◌∷◌, [], ℕ, List, ap}
use Rattle.lin_members.proofs.Chaining.{inserted}
use Rattle.lin_members.proofs.chains.Chains.insert.Goals as goal

pub returns : goal.returns
returns c rounds spelled =
    let last = c.in-Some.last in
    inserted c.args.self.now.links.items c.begin.new.self.links.items c.args.self.now.ends.items c.pop.new.self.items c.push.new.self.items last rounds c.args.placed c.in-Some.ensures.items c.in_ok-begin.ensures.0
    (c.in_ok-push.ensures.items ∙ ap (λ (l : List ℕ). l ++ last ∷ []) c.in_ok-begin.ensures.1) spelled
