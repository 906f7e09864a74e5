-- What comes of refuting an object.
use Rattle.std.specs.Prelude.{◌≢◌, ℕ, List, take}
use Rattle.lin_events.specs.declared.items.Item.{Item}
use Rattle.lin_order.specs.Parts.{part}
use Rattle.lin_order.specs.Refutations.{Config, IsRefutation, sets_of}
use Rattle.lin_chain.specs.declared.chain.RefuteFault.{RefuteFault}
use Rattle.lin_chain.specs.declared.chain.RefuteFault.TheVariants.{NotDead, TooLarge, OutOfMemory}
use Rattle.lin_answers.specs.declared.answers.Answer.TheVariants as answer
use Rattle.lin_session.specs.declared.refuted.Refuted.{Refuted}
use Rattle.lin_session.specs.declared.refuted.Refuted.TheVariants.{No, Not}
use Rattle.lin_answers.specs.declared.answers.Scope.TheVariants.{Object}
use Rattle.lin_answers.specs.Answers.{kinds_in, IsAnswer, IsOverSomewhere}
use Rattle.lin_answers.specs.Edits.{Present}

-- the sets show that the first so many events have no legal order for the object of the key
abbrev pub Refutes : Present → Item → ℕ → List (List Config) → Type 0
Refutes now key n sets = IsRefutation (part key (take n now.history)) (kinds_in now key) sets

-- what is found: a no, with sets that refute the object's events in its prefix; or an answer that isn't a no
abbrev pub IsRefuted : Present → Item → Refuted → Type 0
IsRefuted now key (No n refutation) = IsAnswer now (Object key) (answer.No n) × Refutes now key n (sets_of refutation)
IsRefuted now key (Not found) = IsAnswer now (Object key) found × ((n : ℕ) → found ≢ answer.No n)

-- why nothing is given: the sets of a no would be larger than the budget, or memory was refused
abbrev pub IsUnrefuted : Present → Item → RefuteFault → Type 0
IsUnrefuted now key NotDead = ⊥
IsUnrefuted now key TooLarge = ((n : ℕ) × IsAnswer now (Object key) (answer.No n)) × IsOverSomewhere (kinds_in now) now.budget now.history key
IsUnrefuted now key OutOfMemory = Unit {0}
