-- Rounds in flat memory: operations that are put, and rounds that are read back from their ends.
use Rattle.std.proofs.Common.{◌≡◌, ℕ, zero, suc, ◌+◌, ◌<◌, ◌≤◌, List, [], ◌∷◌, ◌++◌, length, length-append, drop, reverse, get_or, set, add-one, refl, sym, ap, subst, ◌∙◌, arith, Option, Some, None}
use Rattle.std.proofs.lemmas.List.{drop_all, reverse-append, reverse-reverse}
use Rattle.lin_order.specs.declared.placed.Placed.{Placed}
use Rattle.lin_frontier.specs.Nodes.{Spells, root, node}
use Rattle.lin_frontier.specs.lemmas.Closing.{spells_more}
use Rattle.lin_lists.specs.lemmas.Lists.{get_last}
use Rattle.lin_members.specs.Rounds.{ahead, begin_round, joined, place, put}
use Rattle.lin_members.specs.Searching.{in_rounds}
use Rattle.lin_members.specs.inner.Chains.{SpellEach}
use Rattle.lin_members.specs.lemmas.Aheads.{ahead_last, place_put}

-- what links spell they spell with more
each_more : (links added : List (ℕ × Placed)) (ends : List ℕ) (rounds : List (List Placed)) → SpellEach links ends rounds → SpellEach (links ++ added) ends rounds
each_more links added [] [] s = tt
each_more links added (last ∷ ends) (round ∷ rounds) s = (spells_more links added s.0, each_more links added ends rounds s.1)
each_more links added [] (round ∷ rounds) s = absurd s
each_more links added (last ∷ ends) [] s = absurd s

-- one link more spells the round with its operation
one_more : (links : List (ℕ × Placed)) (before : ℕ) (p : Placed) (round : List Placed) → Spells links before round → Spells (links ++ (before, p) ∷ []) (suc (length links)) (round ++ p ∷ [])
one_more links before p round s = node (get_last links (before, p)) (spells_more links ((before, p) ∷ []) s)

-- one round more
each_push : (links : List (ℕ × Placed)) (ends : List ℕ) (rounds : List (List Placed)) (last : ℕ) (round : List Placed) → SpellEach links ends rounds → Spells links last round → SpellEach links (ends ++ last ∷ []) (rounds ++ round ∷ [])
each_push links [] [] last round s one = (one, tt)
each_push links (e ∷ ends) (r ∷ rounds) last round s one = (s.0, each_push links ends rounds last round s.1 one)
each_push links [] (r ∷ rounds) last round s one = absurd s
each_push links (e ∷ ends) [] last round s one = absurd s

-- a round that begins with the operation
each_begin : (links : List (ℕ × Placed)) (ends : List ℕ) (rounds : List (List Placed)) (p : Placed) → SpellEach links ends rounds → SpellEach (links ++ (0, p) ∷ []) (ends ++ suc (length links) ∷ []) (begin_round p rounds)
each_begin links ends rounds p s = each_push (links ++ (0, p) ∷ []) ends rounds (suc (length links)) (p ∷ []) (each_more links ((0, p) ∷ []) ends rounds s) (one_more links 0 p [] root)

pub begun : (links now : List (ℕ × Placed)) (ends then' : List ℕ) (rounds : List (List Placed)) (p : Placed) → now ≡ links ++ (0, p) ∷ [] → then' ≡ ends ++ (length links + 1) ∷ []
    → SpellEach links ends rounds → SpellEach now then' (begin_round p rounds)
begun links now ends then' rounds p linked ended s =
    subst (λ l. SpellEach l then' (begin_round p rounds)) (sym linked)
    (subst (λ l. SpellEach (links ++ (0, p) ∷ []) l (begin_round p rounds)) (sym (ended ∙ ap (λ n. ends ++ n ∷ []) (add-one (length links)))) (each_begin links ends rounds p s))

-- the last of the rounds
record EndsWith (links : List (ℕ × Placed)) (ends : List ℕ) (last : ℕ) (rounds : List (List Placed)) : Type 0 where
  pub front : List (List Placed)
  pub round : List Placed
  pub is : rounds ≡ front ++ round ∷ []
  pub before : SpellEach links ends front
  pub one : Spells links last round

each_last : (links : List (ℕ × Placed)) (ends : List ℕ) (last : ℕ) (rounds : List (List Placed)) → SpellEach links (ends ++ last ∷ []) rounds → EndsWith links ends last rounds
each_last links [] last (r ∷ []) s = record { front = []; round = r; is = refl; before = tt; one = s.0 }
each_last links [] last (r ∷ next ∷ rounds) s = absurd s.1
each_last links [] last [] s = absurd s
each_last links (e ∷ ends) last (r ∷ rounds) s =
    let rest = each_last links ends last rounds s.1 in
    record { front = r ∷ rest.front; round = rest.round; is = ap (λ l. r ∷ l) rest.is; before = (s.0, rest.before); one = rest.one }
each_last links (e ∷ ends) last [] s = absurd s

-- there are as many rounds as ends
pub each_many : (links : List (ℕ × Placed)) (ends : List ℕ) (rounds : List (List Placed)) → SpellEach links ends rounds → length ends ≡ length rounds
each_many links [] [] s = refl
each_many links (last ∷ ends) (round ∷ rounds) s = ap suc (each_many links ends rounds s.1)
each_many links [] (round ∷ rounds) s = absurd s
each_many links (last ∷ ends) [] s = absurd s

-- a round of the operation alone, ahead of the last one
each_ahead : (links : List (ℕ × Placed)) (ends : List ℕ) (last : ℕ) (rounds : List (List Placed)) (p : Placed) → SpellEach links (ends ++ last ∷ []) rounds
    → SpellEach (links ++ (0, p) ∷ []) ((ends ++ suc (length links) ∷ []) ++ last ∷ []) (ahead p rounds)
each_ahead links ends last rounds p s =
    let l = each_last links ends last rounds s in
    subst (SpellEach (links ++ (0, p) ∷ []) ((ends ++ suc (length links) ∷ []) ++ last ∷ [])) (sym (ap (ahead p) l.is ∙ ahead_last p l.front l.round))
    (each_push (links ++ (0, p) ∷ []) (ends ++ suc (length links) ∷ []) (begin_round p l.front) last l.round (each_begin links ends l.front p l.before) (spells_more links ((0, p) ∷ []) l.one))

pub inserted : (links now : List (ℕ × Placed)) (ends front then' : List ℕ) (last : ℕ) (rounds : List (List Placed)) (p : Placed) → ends ≡ front ++ last ∷ [] → now ≡ links ++ (0, p) ∷ []
    → then' ≡ (front ++ (length links + 1) ∷ []) ++ last ∷ [] → SpellEach links ends rounds → SpellEach now then' (ahead p rounds)
inserted links now ends front then' last rounds p was linked ended s =
    subst (λ l. SpellEach l then' (ahead p rounds)) (sym linked)
    (subst (λ l. SpellEach (links ++ (0, p) ∷ []) l (ahead p rounds)) (sym (ended ∙ ap (λ n. (front ++ n ∷ []) ++ last ∷ []) (add-one (length links))))
    (each_ahead links front last rounds p (subst (λ l. SpellEach links l rounds) was s)))

-- the operation at the end of a round
each_put : (links : List (ℕ × Placed)) (ends : List ℕ) (rounds : List (List Placed)) (k : ℕ) (p : Placed) (d : ℕ) → k < length ends → SpellEach links ends rounds
    → SpellEach (links ++ (get_or ends k d, p) ∷ []) (set ends k (suc (length links))) (put k p rounds)
each_put links [] rounds k p d inside s = absurd (omega arith)
each_put links (last ∷ ends) [] k p d inside s = absurd s
each_put links (last ∷ ends) (round ∷ rounds) zero p d inside s = (one_more links last p round s.0, each_more links ((last, p) ∷ []) ends rounds s.1)
each_put links (last ∷ ends) (round ∷ rounds) (suc k) p d inside s =
    (spells_more links ((get_or ends k d, p) ∷ []) s.0, each_put links ends rounds k p d (omega arith) s.1)

pub placed : (links now : List (ℕ × Placed)) (ends : List ℕ) (rounds : List (List Placed)) (k : ℕ) (p : Placed) (before id : ℕ) → k < length ends → before ≡ get_or ends k before → now ≡ links ++ (before, p) ∷ []
    → id ≡ length now → SpellEach links ends rounds → SpellEach now (set ends k id) (place k p rounds)
placed links now ends rounds k p before id inside is linked number s =
    let many = each_many links ends rounds s in
    let last : id ≡ suc (length links) = let long = ap length linked ∙ length-append links ((before, p) ∷ []) in omega arith in
    subst (λ r. SpellEach now (set ends k id) r) (sym (place_put k p rounds (omega arith)))
    (subst (λ l. SpellEach l (set ends k id) (put k p rounds)) (sym (linked ∙ ap (λ n. links ++ (n, p) ∷ []) is))
    (subst (λ n. SpellEach (links ++ (get_or ends k before, p) ∷ []) (set ends k n) (put k p rounds)) (sym last) (each_put links ends rounds k p before inside s)))

-- the round at a place
each_at : (links : List (ℕ × Placed)) (ends : List ℕ) (rounds : List (List Placed)) (k d : ℕ) → k < length ends → SpellEach links ends rounds
    → (round : List Placed) × Spells links (get_or ends k d) round × (drop k rounds ≡ round ∷ drop (suc k) rounds)
each_at links [] rounds k d inside s = absurd (omega arith)
each_at links (last ∷ ends) [] k d inside s = absurd s
each_at links (last ∷ ends) (round ∷ rounds) zero d inside s = (round, s.0, refl)
each_at links (last ∷ ends) (round ∷ rounds) (suc k) d inside s = each_at links ends rounds k d (omega arith) s.1

-- the order from behind: at first nothing of it is there
pub read_none : (links : List (ℕ × Placed)) (ends : List ℕ) (rounds : List (List Placed)) (order : List Placed) (k : ℕ) → k ≡ length ends → order ≡ [] → SpellEach links ends rounds → order ≡ reverse (joined (drop k rounds))
read_none links ends rounds order k all none s = none ∙ ap (λ l. reverse (joined l)) (sym (drop_all k rounds (let many = each_many links ends rounds s in omega arith)))

-- then one round more in each step
pub read_more : (links : List (ℕ × Placed)) (ends : List ℕ) (rounds : List (List Placed)) (order now : List Placed) (k j last : ℕ) → k ≡ suc j → k ≤ length ends → last ≡ get_or ends j last → SpellEach links ends rounds
    → ((round : List Placed) → Spells links last round → now ≡ order ++ reverse round) → order ≡ reverse (joined (drop k rounds)) → now ≡ reverse (joined (drop j rounds))
read_more links ends rounds order now k j last next inside is s read was =
    let at = each_at links ends rounds j last (omega arith) s in
    read at.0 (subst (λ n. Spells links n at.0) (sym is) at.1) ∙ ap (λ l. l ++ reverse at.0) (was ∙ ap (λ n. reverse (joined (drop n rounds))) next)
    ∙ sym (reverse-append at.0 (joined (drop (suc j) rounds))) ∙ ap (λ l. reverse (joined l)) (sym at.2)

-- at last it stands there from its end
pub read_all : (rounds : List (List Placed)) (order : List Placed) (k : ℕ) → k ≡ 0 → order ≡ reverse (joined (drop k rounds)) → reverse order ≡ joined rounds
read_all rounds order k none is = ap reverse (is ∙ ap (λ n. reverse (joined (drop n rounds))) none) ∙ reverse-reverse (joined rounds)

-- one entry and then the rest of them
one_entry : (rounds : List (List Placed)) (p : Placed) (round : Option ℕ) (entries : List (Placed × Option ℕ)) → in_rounds (in_rounds rounds ((p, round) ∷ [])) entries ≡ in_rounds rounds ((p, round) ∷ entries)
one_entry rounds p None entries = refl
one_entry rounds p (Some k) entries = refl

-- the last of the entries that are left is put
pub put_next : (rounds : List (List Placed)) (p : Placed) (round : Option ℕ) (left now : List (Placed × Option ℕ)) (whole : List (List Placed)) → left ≡ now ++ (p, round) ∷ [] → in_rounds rounds (reverse left) ≡ whole
    → in_rounds (in_rounds rounds ((p, round) ∷ [])) (reverse now) ≡ whole
put_next rounds p round left now whole is was = one_entry rounds p round (reverse now) ∙ ap (in_rounds rounds) (sym (ap reverse is ∙ reverse-append now ((p, round) ∷ []))) ∙ was

-- none is left
pub put_all : (links : List (ℕ × Placed)) (ends : List ℕ) (rounds : List (List Placed)) (left : List (Placed × Option ℕ)) (whole : List (List Placed)) → length left ≡ 0 → SpellEach links ends rounds → in_rounds rounds (reverse left) ≡ whole
    → SpellEach links ends whole
put_all links ends rounds [] whole none s is = subst (SpellEach links ends) is s
put_all links ends rounds (entry ∷ left) whole none s is = absurd (omega (arith, none))
