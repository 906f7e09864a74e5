-- Rounds in flat memory: each operation has a link to the one before it in its round, and each round is known by the number of its last one.
use Rattle.std.specs.Prelude.{ℕ, List, [], ◌∷◌}
use Rattle.lin_order.specs.declared.placed.Placed.{Placed}
use Rattle.lin_frontier.specs.Nodes.{Spells}
use Rattle.lin_members.specs.declared.chains.Chains.{Chains}

-- the links spell the rounds, each from its end
abbrev pub SpellEach : List (ℕ × Placed) → List ℕ → List (List Placed) → Type 0
SpellEach links [] [] = Unit {0}
SpellEach links (last ∷ ends) (round ∷ rounds) = Spells links last round × SpellEach links ends rounds
SpellEach links [] (round ∷ rounds) = ⊥
SpellEach links (last ∷ ends) [] = ⊥

-- these are the rounds
abbrev pub AreChained : Chains → List (List Placed) → Type 0
AreChained chains rounds = SpellEach chains.links.items chains.ends.items rounds
