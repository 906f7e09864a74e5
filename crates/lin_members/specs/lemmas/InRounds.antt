-- The rounds of a node as what comes of its entries.
use Rattle.std.proofs.Common.{◌≡◌, ℕ, zero, List, [], ◌∷◌, ◌++◌, refl, sym, ap, ◌∙◌, Option, Some, None}
use Rattle.lin_order.specs.declared.placed.Placed.{Placed}
use Rattle.lin_frontier.specs.Nodes.{Spells, root, node}
use Rattle.lin_members.specs.Rounds.{begin_round, place, SpellsRounds, root as one_round, begins, puts}
use Rattle.lin_members.specs.Searching.{in_rounds}
use Rattle.lin_frontier.specs.lemmas.Spelling.{one_spelled}

-- one entry more
pub in_rounds_begin : (rounds : List (List Placed)) (entries : List (Placed × Option ℕ)) (p : Placed) → in_rounds rounds (entries ++ (p, None) ∷ []) ≡ begin_round p (in_rounds rounds entries)
in_rounds_begin rounds [] p = refl
in_rounds_begin rounds ((q, None) ∷ entries) p = in_rounds_begin (begin_round q rounds) entries p
in_rounds_begin rounds ((q, Some k) ∷ entries) p = in_rounds_begin (place k q rounds) entries p

pub in_rounds_place : (rounds : List (List Placed)) (entries : List (Placed × Option ℕ)) (p : Placed) (k : ℕ) → in_rounds rounds (entries ++ (p, Some k) ∷ []) ≡ place k p (in_rounds rounds entries)
in_rounds_place rounds [] p k = refl
in_rounds_place rounds ((q, None) ∷ entries) p k = in_rounds_place (begin_round q rounds) entries p k
in_rounds_place rounds ((q, Some j) ∷ entries) p k = in_rounds_place (place j q rounds) entries p k

-- the entries that a node spells come to its rounds
pub entries_of : (nodes : List (ℕ × (Placed × Option ℕ))) (id : ℕ) (rounds : List (List Placed)) → SpellsRounds nodes id rounds
    → (entries : List (Placed × Option ℕ)) × Spells nodes id entries × (in_rounds ([] ∷ []) entries ≡ rounds)
entries_of nodes zero rounds one_round = ([], root, refl)
entries_of nodes id rounds (begins {k} {parent} {rounds = front} {p} at rest) =
    let e = entries_of nodes parent front rest in
    (e.0 ++ (p, None) ∷ [], node at e.1, in_rounds_begin ([] ∷ []) e.0 p ∙ ap (begin_round p) e.2)
entries_of nodes id rounds (puts {k} {parent} {round} {rounds = front} {p} at rest) =
    let e = entries_of nodes parent front rest in
    (e.0 ++ (p, Some round) ∷ [], node at e.1, in_rounds_place ([] ∷ []) e.0 p round ∙ ap (place round p) e.2)

-- so a node spells one list of rounds
pub one_rounds : (nodes : List (ℕ × (Placed × Option ℕ))) (id : ℕ) (a b : List (List Placed)) → SpellsRounds nodes id a → SpellsRounds nodes id b → a ≡ b
one_rounds nodes id a b s t =
    let e = entries_of nodes id a s in
    let f = entries_of nodes id b t in
    sym e.2 ∙ ap (in_rounds ([] ∷ [])) (one_spelled nodes id e.0 f.0 e.1 f.1) ∙ f.2
