use Rattle.std.proofs.Common.{◌≤◌, refl, sym, subst, arith}
use Rattle.lin_engines.specs.Exacts.{HasExact}
use Rattle.lin_engines.specs.lemmas.Beginnings.{longer}
use Rattle.lin_chain.specs.Chains.{IsBeside, IsFound, kind_in}
use Rattle.lin_chain.proofs.chain.Chain.cut.Goals as goal

pub returns-clause-right : goal.returns-clause-right
returns-clause-right c = λ h edited right same.
    let kind = c.cut.ensures.kind in
    let least = c.min-self.ensures in
    record {
      frontier = c.cut.ensures.right h edited right.frontier same;
      spared = λ exact. c.cut.ensures.under 1024 (right.spared (subst HasExact kind exact));
      beside = subst (λ k. IsBeside k edited c.cut-2.new.self) (sym kind) (c.cut-2.ensures.right (kind_in c.args.self.now) h edited right.beside same);
      found = subst (λ k. IsFound k edited c.cut-3.new.self) (sym kind) (c.cut-3.ensures.right (kind_in c.args.self.now) h edited right.found same);
      searched = longer h edited c.args.place c.min-self.result (omega (arith, least)) (omega (arith, least, right.searched)) same;
    }

pub returns-clause-mark : goal.returns-clause-mark
returns-clause-mark c = λ h right. record {
  frontier_back = c.cut.ensures.no_more h right.frontier;
  frontier_near = c.cut.ensures.not_far h right.frontier;
  frontier_still = c.cut.ensures.still h right.frontier;
  beside_back = c.cut-2.ensures.back (kind_in c.args.self.now) h right.beside;
  beside_near = c.cut-2.ensures.near (kind_in c.args.self.now) h right.beside;
  beside_still = c.cut-2.ensures.still (kind_in c.args.self.now) h right.beside;
  searched = c.min-self.ensures;
  unstopped = refl;
}
