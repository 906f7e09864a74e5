use Rattle.std.proofs.Common.{◌≡◌, ◌<◌, ℕ, List, get_or}
use Rattle.std.specs.Prelude.{option_map}
use Rattle.lin_possibilities.specs.Ranks.{members_in}
use Rattle.lin_possibilities.specs.inner.OutcomesTelling.{words_in}
use Rattle.lin_possibilities.specs.declared.told.Told.{Told}
use Rattle.lin_possibilities.specs.declared.words.Extent.TheVariants.{Short}
use Rattle.lin_possibilities.proofs.told.are_same_words.Given as goal

abbrev pub invariant-loop-at : goal.invariant-loop-at
invariant-loop-at l =
    let words : Told → List ℕ = λ t. words_in Short l.names (members_in (option_map (λ r. r.now) l.recorded)) t.what in
    (k : ℕ) (d e : Told) → k < l.at → words (get_or l.told k d) ≡ words (get_or l.others k e)
