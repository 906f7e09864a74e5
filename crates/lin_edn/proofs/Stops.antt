-- Where the reader without values stops, nothing is open any more.
use Rattle.std.proofs.Common.{◌≡◌, ℕ, zero, suc, ◌+◌, ◌<◌, ◌≤◌, Bool, true, false, if◌then◌else◌, List, [], ◌∷◌, ◌++◌, length, get_or, drop, take, take-append-drop, refl, sym, ap, subst, ◌∙◌, arith, Option, Some, None, map as each}
use Rattle.lin_edn.specs.Grammar.{Frame, frame, outermost, longest}
use Rattle.lin_edn.specs.inner.Machine.{Mode, between, in_run, after_hash, after_backslash, in_tag, in_text, in_escape, in_comment, Answer, partial, blank, too_long, Turn, go, stop, run, step, limited, ended, taken, begun, on_turn}
use Rattle.lin_edn.specs.Rows.{IsRow, IsRound, bracket_of, row_levels}
use Rattle.lin_edn.specs.Skimming.{Shape, LeavesOpen, shapes_of, shape_of, IsOpenText}
use Rattle.lin_edn.specs.inner.Skimming.{ended_shape, taken_shape, HasGone, HasStopped}
use Rattle.lin_edn.specs.Value.{Value}
use Rattle.lin_edn.specs.declared.series.Series.{Series}
use Rattle.lin_edn.specs.declared.skim.Part.{Part}
use Rattle.lin_edn.specs.declared.skim.Skim.{Skim}
use Rattle.lin_edn.specs.lemmas.Rising.{one_past, inside_past, tag_past, text_past, escape_past, comment_past, first_below}
use Rattle.lin_edn.proofs.Ahead.{at_byte}
use Rattle.lin_edn.proofs.Back.{Stands}
use Rattle.lin_edn.proofs.Forth.{blank_input}
use Rattle.lin_edn.proofs.Limit.{is_within}
use Rattle.lin_edn.proofs.Only.{unfinished_run}
use Rattle.lin_edn.proofs.Order.{TurnOrder, AnswerOrder, step_order, run_order}
use Rattle.lin_edn.proofs.Skims.{part_of, Follows, follows, Matches, IsOver, ended_matches, taken_matches, follows_ended, state_of}
use Rattle.lin_edn.proofs.Wrong.{stands_run}

-- what the machine answers where a text is open from its first byte on
abbrev open_answer : Bool → Answer
open_answer true = blank 0
open_answer false = partial 0

runs_open : (is_comment : Bool) (text : List ℕ) → IsOpenText is_comment text → run longest 0 [] between text ≡ open_answer is_comment
runs_open true text h = blank_input h
runs_open false text h = unfinished_run text 0 h

-- no answer behind a first byte
not_behind : (is_comment : Bool) (at : ℕ) (a : Answer) → 0 < at → AnswerOrder at a → a ≡ open_answer is_comment → ⊥
not_behind true at a lt order e = (let le : at ≤ 0 = subst (AnswerOrder at) e order in absurd (omega arith))
not_behind false at a lt order e = (let le : at ≤ 0 = subst (AnswerOrder at) e order in absurd (omega arith))

-- no answer that a byte brings
not_told : (is_comment : Bool) (at : ℕ) (a : Answer) → TurnOrder longest 0 at (stop a) → a ≡ open_answer is_comment → ⊥
not_told true at a order e = subst (λ x. TurnOrder longest 0 at (stop x)) e order
not_told false at a order e = subst (λ x. TurnOrder longest 0 at (stop x)) e order

abbrev answer_of : ℕ → List ℕ → Turn → Answer
answer_of at rest t = on_turn t (λ st m. run longest (at + 1) st m rest)

-- a byte behind which nothing is open
over_behind : (is_comment : Bool) (at : ℕ) (rest : List ℕ) (t : Turn) → TurnOrder longest 0 at t → IsOver t → answer_of at rest t ≡ open_answer is_comment → ⊥
over_behind is_comment at rest (stop a) order over e = not_told is_comment at a order e
over_behind is_comment at rest (go st m) order over e =
    not_behind is_comment (at + 1) (run longest (at + 1) st m rest) (omega arith)
    (rw (over.0, over.1) (run_order longest (at + 1) rest (at + 1) [] between (omega arith) (omega arith))) e

-- a byte before which nothing is open any more
over_before : (is_comment : Bool) (at c : ℕ) (rest : List ℕ) (t : Turn) → TurnOrder longest 0 at (limited longest at c t) → 0 < at → IsOver t →
    answer_of at rest (limited longest at c t) ≡ open_answer is_comment → ⊥
unfolding run
over_before is_comment at c rest (stop a) order lt over e = not_told is_comment at a order e
over_before is_comment at c rest (go st m) order lt over e =
    not_behind is_comment at (run longest at [] between (c ∷ rest)) lt (run_order longest at (c ∷ rest) at [] between (omega arith) (omega arith))
    (subst (λ x. answer_of at rest (limited longest at c (go x between)) ≡ open_answer is_comment) over.0
    (subst (λ x. answer_of at rest (limited longest at c (go st x)) ≡ open_answer is_comment) over.1 e))

-- a byte stands before what is ended
some_byte : (text rest : List ℕ) (at c : ℕ) (ls : List Shape) (st : List Frame) (m : Mode) → Stands text at st m rest → ended_shape (part_of m) ls c ≡ None → 0 < at
some_byte text rest at c ls st between h e = absurd (cc)
some_byte text rest at c ls st (in_run p w) h e = (let a : p < at = (inside_past h.3).0 in omega arith)
some_byte text rest at c ls st (after_hash p w) h e = (let a : p < at = (one_past h.3).0 in omega arith)
some_byte text rest at c ls st (after_backslash p w) h e = (let a : p < at = (one_past h.3).0 in omega arith)
some_byte text rest at c ls st (in_tag p w) h e = (let a : p < at = (tag_past h.3).0 in omega arith)
some_byte text rest at c ls st (in_text p w) h e = (let a : p < at = (text_past h.3).0 in omega arith)
some_byte text rest at c ls st (in_escape p w) h e = (let a : p < at = (escape_past h.3).0 in omega arith)
some_byte text rest at c ls st (in_comment p) h e = (let a : p < at = (comment_past h.3).0 in omega arith)

over_of : (at b : ℕ) (t : Turn) (o : Option (List Shape × Part)) → o ≡ None → Matches at b t o → IsOver t
over_of at b t None e h = h
over_of at b t (Some x) e h = absurd (cc)

over_if : (b : Bool) (a : Answer) (t : Turn) → IsOver t → IsOver (if b then stop a else t)
over_if true a t h = tt
over_if false a t h = h

-- too many bytes
too_many : (at c : ℕ) (t : Turn) (ls1 : List Shape) (p1 : Part) → Follows at 0 t ls1 p1 → longest ≤ at → IsOver (limited longest at c t)
too_many at c t ls1 p1 (follows st m e s q b) le =
    let past : begun at st m + longest ≤ at = omega arith in
    subst (λ x. IsOver (limited longest at c x)) (sym e)
    (subst (λ x. IsOver (if x then stop (too_long (begun at st m)) else taken at st m c)) (sym (is_within (begun at st m + longest) at past)) tt)

-- a byte that leaves nothing open
none_taken : (at c : ℕ) (t : Turn) (ls1 : List Shape) (p1 : Part) → Follows at 0 t ls1 p1 → taken_shape p1 ls1 c ≡ None → IsOver (limited longest at c t)
none_taken at c t ls1 p1 (follows st m e s q b) h =
    let shaped : taken_shape (part_of m) (each shape_of st) c ≡ None = ap (λ x. taken_shape x (each shape_of st) c) q ∙ ap (λ x. taken_shape p1 x c) s ∙ h in
    subst (λ x. IsOver (limited longest at c x)) (sym e)
    (over_if _ (too_long (begun at st m)) (taken at st m c) (over_of (at + 1) (begun at st m) (taken at st m c) _ shaped (taken_matches at c st m)))

-- where the machine is before a byte
abbrev At : List ℕ → ℕ → List ℕ → List Shape → Part → Type 0
At text at bytes ls p = (st : List Frame) × (m : Mode) × Stands text at st m bytes × (begun at st m ≡ 0) × (each shape_of st ≡ ls) × (part_of m ≡ p)

at_of : (text : List ℕ) (at : ℕ) (bytes : List ℕ) (ls : List Shape) (p : Part) → LeavesOpen text at bytes ls p → At text at bytes ls p
at_of text at bytes ls p seen =
    let state = state_of p seen.1 seen.3 at seen.2 text seen.4 bytes seen.5 seen.6 in (seen.2, state.0, state.3, state.2 ∙ seen.8, seen.7, state.1)

shaped_at : (c : ℕ) (st : List Frame) (m : Mode) (ls : List Shape) (p : Part) (o : Option (List Shape × Part)) → each shape_of st ≡ ls → part_of m ≡ p →
    ended_shape p ls c ≡ o → ended_shape (part_of m) (each shape_of st) c ≡ o
shaped_at c st m ls p o s q e = ap (λ x. ended_shape x (each shape_of st) c) q ∙ ap (λ x. ended_shape p x c) s ∙ e

-- what the machine answers from there
answers : (text : List ℕ) (at c : ℕ) (rest : List ℕ) (st : List Frame) (m : Mode) (is_comment : Bool) → Stands text at st m (c ∷ rest) → at ≤ longest →
    IsOpenText is_comment text → answer_of at rest (step longest at st m c) ≡ open_answer is_comment
unfolding run
answers text at c rest st m is_comment stands le is = sym (stands_run text at st m (c ∷ rest) stands le) ∙ runs_open is_comment text is

pub stops_before : (old : Skim) (c : ℕ) (rest : List ℕ) → ended_shape old.part (shapes_of old.levels.items) c ≡ None → HasStopped old (c ∷ rest)
stops_before old c rest e text is_comment seen is =
    let at = old.length in
    let here = at_of text at (c ∷ rest) (shapes_of old.levels.items) old.part seen in
    let st = here.0 in
    let m = here.1 in
    let first : begun at st m ≡ 0 = here.3 in
    let shaped = shaped_at c st m (shapes_of old.levels.items) old.part None here.4 here.5 e in
    over_before is_comment at c rest (ended at st m c) (step_order longest 0 at st m c (omega arith) (omega arith))
    (some_byte text (c ∷ rest) at c (each shape_of st) st m here.2 shaped)
    (over_of at (begun at st m) (ended at st m c) _ shaped (ended_matches text (c ∷ rest) at c st m here.2))
    (answers text at c rest st m is_comment here.2 seen.0 is)

stops_at : (old : Skim) (c : ℕ) (rest : List ℕ) (ls1 : List Shape) (p1 : Part) → ended_shape old.part (shapes_of old.levels.items) c ≡ Some (ls1, p1) →
    ((t : Turn) → Follows old.length 0 t ls1 p1 → IsOver (limited longest old.length c t)) → HasStopped old (c ∷ rest)
stops_at old c rest ls1 p1 e over text is_comment seen is =
    let at = old.length in
    let here = at_of text at (c ∷ rest) (shapes_of old.levels.items) old.part seen in
    let st = here.0 in
    let m = here.1 in
    let first : begun at st m ≡ 0 = here.3 in
    let shaped = shaped_at c st m (shapes_of old.levels.items) old.part (Some (ls1, p1)) here.4 here.5 e in
    over_behind is_comment at rest (step longest at st m c) (step_order longest 0 at st m c (omega arith) (omega arith))
    (over (ended at st m c) (follows_ended text (c ∷ rest) at c st m ls1 p1 here.2 first shaped))
    (answers text at c rest st m is_comment here.2 seen.0 is)

pub stops_long : (old : Skim) (c : ℕ) (rest : List ℕ) (ls1 : List Shape) (p1 : Part) → ended_shape old.part (shapes_of old.levels.items) c ≡ Some (ls1, p1) →
    longest ≤ old.length → HasStopped old (c ∷ rest)
stops_long old c rest ls1 p1 e le = stops_at old c rest ls1 p1 e (λ t f. too_many old.length c t ls1 p1 f le)

pub stops_behind : (old : Skim) (c : ℕ) (rest : List ℕ) (ls1 : List Shape) (p1 : Part) → ended_shape old.part (shapes_of old.levels.items) c ≡ Some (ls1, p1) →
    taken_shape p1 ls1 c ≡ None → HasStopped old (c ∷ rest)
stops_behind old c rest ls1 p1 e f = stops_at old c rest ls1 p1 e (λ t g. none_taken old.length c t ls1 p1 g f)

-- further on
stopped_behind : (old now : Skim) (s t : List ℕ) → HasGone old now s → HasStopped now t → HasStopped old (s ++ t)
stopped_behind old now s t gone stopped text is_comment seen = stopped text is_comment (gone.1 text t seen)

pub stopped_at : (old now : Skim) (bytes : List ℕ) (at : ℕ) → at < length bytes → HasGone old now (take at bytes) →
    ((rest : List ℕ) → HasStopped now (get_or bytes at 0 ∷ rest)) → HasStopped old bytes
stopped_at old now bytes at lt gone stopped =
    subst (HasStopped old) (take-append-drop at bytes)
    (stopped_behind old now (take at bytes) (drop at bytes) gone (subst (HasStopped now) (sym (at_byte bytes at lt)) (stopped (drop (at + 1) bytes))))

-- a list or vector in a text that is open from its first byte on begins there
zero_of : (n : ℕ) → (0 < n → ⊥) → n ≡ 0
zero_of zero h = refl
zero_of (suc n) h = absurd (h (omega arith))

round_begun : (is_tagged : Bool) (begun o : ℕ) (st : List Frame) → IsRound is_tagged begun o st → outermost o st ≡ begun
round_begun true begun o st round = ap (outermost o) round.2
round_begun false begun o st round = ap (outermost o) round.1 ∙ round.0

pub begins_first : (r : Series) (text : List ℕ) (vs : List Value) (is_comment : Bool) → IsRow r text vs → IsOpenText is_comment text → r.begun ≡ 0
begins_first r text vs is_comment row is = zero_of r.begun (λ lt.
    let st = frame (bracket_of r.is_vector) row.2 vs ∷ row.3 in
    let rest = drop r.at text in
    let first : outermost row.2 row.3 ≡ r.begun = round_begun r.is_tagged r.begun row.2 row.3 row.4 in
    let before : outermost row.2 row.3 < r.at = first_below row.5 in
    not_behind is_comment r.begun (run longest r.at st between rest) lt (run_order longest r.begun rest r.at st between (omega arith) (omega arith))
    (sym (stands_run text r.at st between rest (row_levels r, row.5) row.1) ∙ runs_open is_comment text is))

pub goes_on : (b : Bool) → (b ≡ false → ⊥) → b ≡ true
goes_on true h = refl
goes_on false h = absurd (h refl)
