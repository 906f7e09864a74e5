use Rattle.std.proofs.Common.{◌∷◌, [], ℕ, Option, subst, sym}
use Rattle.std.proofs.lemmas.Result.{on_ok_weaker}
use Rattle.lin_members.specs.Searching.{in_rounds}
use Rattle.lin_members.specs.inner.Chains.{AreChained}
use Rattle.lin_members.proofs.Chaining.{begun}
use Rattle.lin_members.proofs.chains.Chains.put.Goals as goal

pub returns-in-None : goal.returns-in-None
returns-in-None c = on_ok_weaker c.begin.result
    (λ made rounds spelled. subst (λ (round : Option ℕ). AreChained c.begin.new.self (in_rounds rounds ((c.args.placed, round) ∷ []))) (sym c.in-None.is)
    (begun c.args.self.now.links.items c.begin.new.self.links.items c.args.self.now.ends.items c.begin.new.self.ends.items rounds c.args.placed made.0 made.1 spelled))
    c.begin.ensures
