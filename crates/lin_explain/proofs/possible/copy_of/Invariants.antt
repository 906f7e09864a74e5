use Rattle.std.proofs.Common.{◌≡◌, map, take}
use Rattle.lin_explain.proofs.possible.copy_of.Given as goal

abbrev pub invariant-loop-words : goal.invariant-loop-words
invariant-loop-words l = map (λ words. words.items) l.all.items ≡ map (λ words. words.items) (take l.words-index l.whole)
