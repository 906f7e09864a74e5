use Rattle.std.proofs.Common.{◌≡◌, map, take}
use Rattle.lin_possibilities.specs.inner.OutcomesTelling.{words_by}
use Rattle.lin_possibilities.specs.declared.words.Extent.TheVariants.{Whole}
use Rattle.lin_possibilities.proofs.listing.whole_of.Given as goal

abbrev pub invariant-loop-one : goal.invariant-loop-one
invariant-loop-one l = map (λ words. words.items) l.whole.items ≡ map (words_by Whole l.leading_by) (take l.one-index l.told)
