use Rattle.lin_sets.specs.News.{IsPartly}
use Rattle.lin_sets.proofs.news.beyond.Given as goal

abbrev pub invariant-loop-item : goal.invariant-loop-item
invariant-loop-item l = IsPartly l.items l.other l.item-index l.met l.more.items
