use Rattle.std.proofs.Common.{◌≡◌, ◌∙◌, sym, subst, arith}
use Rattle.lin_engines.specs.Replays.{IsReplay}
use Rattle.lin_chain.proofs.Chaining.{on_not_over}
use Rattle.lin_chain.proofs.chain.Chain.new.Goals as goal

pub returns-clause-right : goal.returns-clause-right
returns-clause-right c = λ h. record {
  frontier = c.new-2.ensures.right h (c.new.ensures.right h);
  spared = λ exact at over. absurd (on_not_over c.new-2.result.said at c.new-2.ensures.on over);
  beside = tt;
  found = tt;
  searched = omega arith;
}
