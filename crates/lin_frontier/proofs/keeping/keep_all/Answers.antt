use Rattle.std.proofs.Common.{refl, sym, arith}
use Rattle.lin_frontier.specs.lemmas.Closing.{ended}
use Rattle.lin_frontier.specs.lemmas.Trying.{take_all}
use Rattle.lin_frontier.proofs.Entries.{keeping_none, keeping_end}
use Rattle.lin_frontier.proofs.keeping.keep_all.Goals as goal

pub loop-config-init : goal.loop-config-init
loop-config-init g c = record {
  within = omega arith;
  keeping = keeping_none _ _ _ _ refl c.in_ok-kept.ensures.empty;
}

pub loop-config-preserved : goal.loop-config-preserved
loop-config-preserved g c = record {
  within = let inside = c.in-Some.ensures.found.0 refl in omega arith;
  keeping = c.in_ok-keep_one.ensures c.args.configs.now.entries c.loop-config.at (sym c.in-Some.ensures.entry) c.loop-config.invariant.keeping;
}

pub returns : goal.returns
returns g c = keeping_end _ _ c.args.configs.now.entries c.loop-config.kept.entries c.loop-config.at (take_all c.loop-config.at _ (ended _ _ c.in_default.ensures.found.1)) c.loop-config.invariant.keeping
