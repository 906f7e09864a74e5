use Rattle.std.proofs.Common.{◌≡◌, ◌∙◌, ap, refl, subst, sym}
use Rattle.lin_engines.specs.Exacts.{SeesExact, kind_of_exact}
use Rattle.lin_chain.specs.Chains.{kind_in, mark_beside}
use Rattle.lin_chain.proofs.Chaining.{right_with_beside}
use Rattle.lin_chain.proofs.chain.Chain.begin.Goals as goal

pub returns-in-Some : goal.returns-in-Some
returns-in-Some c = record {
  others = refl;
  right = λ h right. right_with_beside c.args.self.now _ h (ap kind_of_exact c.new.ensures.engine ∙ c.in-Some.ensures.some.0 ∙ c.kind.ensures, c.new.ensures.right h (c.in-Some.ensures.some.2 h)) right;
  mark = λ h right. c.new.ensures.mark ∙ sym (ap mark_beside c.in-Nothing.is);
  exact = λ h right exact. tt;
}
