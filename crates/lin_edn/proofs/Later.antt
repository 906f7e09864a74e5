-- The machine answers alike on the same bytes some places later.
use Rattle.std.proofs.Common.{◌≡◌, ℕ, ◌+◌, Bool, true, false, List, [], ◌∷◌, ◌++◌, length, refl, sym, ap, ◌∙◌, Option, Some, None, option_map, nat_le, ◌==◌, if◌then◌else◌, add_assoc, map as each, ℤ, codes, rules, tests}
use Rattle.std.proofs.lemmas.List.{map-append, length-map}
use Rattle.std.specs.Str.{bytes_eq}
use Rattle.lin_bytes.specs.Bytes.{Kind, a_list, a_vector, a_set, a_map, Class, white, semicolon, opener, closer, quote, backslash, hash, inside, class, is_stop, is_newline, closing, Behind, behind, opens_set, opens_text, discards, joins, stands_apart, names_tag, Quoted, quoted, ends, escapes, stays}
use Rattle.lin_edn.specs.Grammar.{Frame, frame, discarding, tagging, outermost}
use Rattle.lin_edn.specs.Laws.{later, later_values, later_entries}
use Rattle.lin_edn.specs.inner.Machine.{Mode, between, in_run, after_hash, after_backslash, in_tag, in_text, in_escape, in_comment, Answer, complete, blank, partial, fault, too_long, Turn, go, stop, run, step, limited, ended, taken, begun, on_turn, put, deeper, begins, goes_on, quotes, apart, close, closed, at_end, open_end}
use Rattle.lin_edn.specs.Run.{run_value, of_number, is_keyword, integer}
use Rattle.lin_edn.specs.Value.{Value, nil, bool, atom, keyword, text, tagged, list, vector, set, map, value, Entries, entry, values_of, made, pairs_from}
use Rattle.lin_edn.specs.declared.EdnCause.TheVariants.{Unbalanced, TooDeep}

abbrev frame_later : ℕ → Frame → Frame
frame_later n (frame k o vs) = frame k (n + o) (each (later n) vs)
frame_later n (discarding o) = discarding (n + o)
frame_later n (tagging o i w) = tagging (n + o) (n + i) w

abbrev frames_later : ℕ → List Frame → List Frame
frames_later n st = each (frame_later n) st

abbrev mode_later : ℕ → Mode → Mode
mode_later n between = between
mode_later n (in_run p w) = in_run (n + p) w
mode_later n (after_hash p w) = after_hash (n + p) w
mode_later n (after_backslash p w) = after_backslash (n + p) w
mode_later n (in_tag p w) = in_tag (n + p) w
mode_later n (in_text p w) = in_text (n + p) w
mode_later n (in_escape p w) = in_escape (n + p) w
mode_later n (in_comment p) = in_comment (n + p)

abbrev pub answer_later : ℕ → Answer → Answer
answer_later n (complete v p q) = complete (later n v) (n + p) (n + q)
answer_later n (blank q) = blank (n + q)
answer_later n (partial p) = partial (n + p)
answer_later n (fault j i k) = fault (n + j) (n + i) k
answer_later n (too_long p) = too_long (n + p)

abbrev turn_later : ℕ → Turn → Turn
turn_later n (go st m) = go (frames_later n st) (mode_later n m)
turn_later n (stop a) = stop (answer_later n a)

-- values
of_if : (n p : ℕ) (w : List ℕ) (b : Bool) → later n (if b then keyword p w else atom p w) ≡ (if b then keyword (n + p) w else atom (n + p) w)
of_if n p w true = refl
of_if n p w false = refl

of_later : (n p : ℕ) (w : List ℕ) (z : Option ℤ) → of_number (n + p) w z ≡ later n (of_number p w z)
of_later n p w (Some z) = refl
of_later n p w None = sym (of_if n p w (is_keyword w))

run_if : (n p : ℕ) (w : List ℕ) (z : Option ℤ) (a b c : Bool) →
    (if a then nil else (if b then bool true else (if c then bool false else of_number (n + p) w z)))
    ≡ later n (if a then nil else (if b then bool true else (if c then bool false else of_number p w z)))
run_if n p w z true b c = refl
run_if n p w z false true c = refl
run_if n p w z false false true = refl
run_if n p w z false false false = of_later n p w z

run_value_later : (n p : ℕ) (w : List ℕ) → run_value (n + p) w ≡ later n (run_value p w)
run_value_later n p w = run_if n p w (integer w) (bytes_eq w (codes "nil")) (bytes_eq w (codes "true")) (bytes_eq w (codes "false"))

values_later : (n : ℕ) (vs : List Value) → values_of (each (later n) vs) ≡ later_values n (values_of vs)
values_later n [] = refl
values_later n (v ∷ vs) = ap (value (later n v)) (values_later n vs)

entry_outside : (n : ℕ) (k v : Value) (o : Option Entries) →
    option_map (entry (later n k) (later n v)) (option_map (later_entries n) o) ≡ option_map (later_entries n) (option_map (entry k v) o)
entry_outside n k v None = refl
entry_outside n k v (Some es) = refl

map_outside : (n : ℕ) (o : Option Entries) → option_map map (option_map (later_entries n) o) ≡ option_map (later n) (option_map map o)
map_outside n None = refl
map_outside n (Some es) = refl

pairs_later : (n : ℕ) (o : Option Value) (vs : List Value) → pairs_from (option_map (later n) o) (each (later n) vs) ≡ option_map (later_entries n) (pairs_from o vs)
pairs_later n None [] = refl
pairs_later n (Some k) [] = refl
pairs_later n None (v ∷ vs) = pairs_later n (Some v) vs
pairs_later n (Some k) (v ∷ vs) = ap (option_map (entry (later n k) (later n v))) (pairs_later n None vs) ∙ entry_outside n k v (pairs_from None vs)

made_later : (n : ℕ) (k : Kind) (vs : List Value) → made k (each (later n) vs) ≡ option_map (later n) (made k vs)
made_later n a_list vs = ap (λ x. Some (list x)) (values_later n vs)
made_later n a_vector vs = ap (λ x. Some (vector x)) (values_later n vs)
made_later n a_set vs = ap (λ x. Some (set x)) (values_later n vs)
made_later n a_map vs = ap (option_map map) (pairs_later n None vs) ∙ map_outside n (pairs_from None vs)

-- turns
put_later : (n : ℕ) (v : Value) (p : ℕ) (st : List Frame) (q : ℕ) → put (later n v) (n + p) (frames_later n st) (n + q) ≡ turn_later n (put v p st q)
put_later n v p [] q = refl
put_later n v p (frame k o vs ∷ st) q = ap (λ us. go (frame k (n + o) us ∷ frames_later n st) between) (sym (map-append (later n) vs (v ∷ [])))
put_later n v p (discarding o ∷ st) q = refl
put_later n v p (tagging o i w ∷ st) q = put_later n (tagged i w v) o st q

put_behind : (n : ℕ) (v : Value) (p : ℕ) (st : List Frame) (at : ℕ) → put (later n v) (n + p) (frames_later n st) (n + at + 1) ≡ turn_later n (put v p st (at + 1))
put_behind n v p st at = ap (put (later n v) (n + p) (frames_later n st)) (add_assoc n at 1) ∙ put_later n v p st (at + 1)

turn_if : (n : ℕ) (b : Bool) (t u : Turn) → (if b then turn_later n t else turn_later n u) ≡ turn_later n (if b then t else u)
turn_if n true t u = refl
turn_if n false t u = refl

deeper_later : (n at p : ℕ) (st : List Frame) (t : Turn) → deeper (n + at) (n + p) (frames_later n st) (turn_later n t) ≡ turn_later n (deeper at p st t)
deeper_later n at p st t =
    ap (λ l. if nat_le 64 l then stop (fault (n + at) (n + p) TooDeep) else turn_later n t) (length-map st (frame_later n))
    ∙ turn_if n (nat_le 64 (length st)) (stop (fault at p TooDeep)) t

closed_later : (n : ℕ) (m : Option Value) (p : ℕ) (st : List Frame) (at : ℕ) →
    closed (option_map (later n) m) (n + p) (frames_later n st) (n + at) ≡ turn_later n (closed m p st at)
closed_later n None p st at = refl
closed_later n (Some v) p st at = put_behind n v p st at

close_later : (n at : ℕ) (st : List Frame) (c : ℕ) → close (n + at) (frames_later n st) c ≡ turn_later n (close at st c)
close_later n at [] c = refl
close_later n at (frame k p vs ∷ st) c =
    ap (λ m. if closing k == c then closed m (n + p) (frames_later n st) (n + at) else stop (fault (n + at) (n + at) Unbalanced)) (made_later n k vs)
    ∙ ap (λ t. if closing k == c then t else stop (fault (n + at) (n + at) Unbalanced)) (closed_later n (made k vs) p st at)
    ∙ turn_if n (closing k == c) (closed (made k vs) p st at) (stop (fault at at Unbalanced))
close_later n at (discarding p ∷ st) c = refl
close_later n at (tagging p i w ∷ st) c = refl

begins_later : (n at : ℕ) (st : List Frame) (c : ℕ) (k : Class) → begins k (n + at) (frames_later n st) c ≡ turn_later n (begins k at st c)
begins_later n at st c white = refl
begins_later n at st c semicolon = refl
begins_later n at st c (opener k) = deeper_later n at at st (go (frame k at [] ∷ st) between)
begins_later n at st c closer = close_later n at st c
begins_later n at st c quote = refl
begins_later n at st c backslash = refl
begins_later n at st c hash = refl
begins_later n at st c inside = refl

goes_on_later : (n at : ℕ) (st : List Frame) (p : ℕ) (w : List ℕ) (c : ℕ) (b : Behind) → goes_on b (n + at) (frames_later n st) (n + p) w c ≡ turn_later n (goes_on b at st p w c)
goes_on_later n at st p w c opens_set = deeper_later n at p st (go (frame a_set p [] ∷ st) between)
goes_on_later n at st p w c opens_text = refl
goes_on_later n at st p w c discards = deeper_later n at p st (go (discarding p ∷ st) between)
goes_on_later n at st p w c joins = refl
goes_on_later n at st p w c stands_apart = refl
goes_on_later n at st p w c names_tag = deeper_later n at p st (go st (in_tag p (c ∷ [])))

quotes_later : (n at : ℕ) (st : List Frame) (p : ℕ) (w : List ℕ) (c : ℕ) (q : Quoted) → quotes q (n + at) (frames_later n st) (n + p) w c ≡ turn_later n (quotes q at st p w c)
quotes_later n at st p w c ends = put_behind n (text p (w ++ c ∷ [])) p st at
quotes_later n at st p w c escapes = refl
quotes_later n at st p w c stays = refl

apart_later : (n at : ℕ) (st : List Frame) (p : ℕ) (w : List ℕ) (b : Behind) → apart b (n + at) (frames_later n st) (n + p) w ≡ turn_later n (apart b at st p w)
apart_later n at st p w opens_set = refl
apart_later n at st p w opens_text = refl
apart_later n at st p w discards = refl
apart_later n at st p w joins = refl
apart_later n at st p w stands_apart = put_later n (atom p w) p st at
apart_later n at st p w names_tag = refl

ended_later : (n at : ℕ) (st : List Frame) (m : Mode) (c : ℕ) → ended (n + at) (frames_later n st) (mode_later n m) c ≡ turn_later n (ended at st m c)
ended_later n at st between c = refl
ended_later n at st (in_run p w) c =
    ap (λ t. if is_stop c then t else go (frames_later n st) (in_run (n + p) w)) (ap (λ v. put v (n + p) (frames_later n st) (n + at)) (run_value_later n p w) ∙ put_later n (run_value p w) p st at)
    ∙ turn_if n (is_stop c) (put (run_value p w) p st at) (go st (in_run p w))
ended_later n at st (after_hash p w) c = apart_later n at st p w (behind c)
ended_later n at st (after_backslash p w) c = refl
ended_later n at st (in_tag p w) c =
    ap (λ i. if is_stop c then go (tagging (n + p) i w ∷ frames_later n st) between else go (frames_later n st) (in_tag (n + p) w)) (add_assoc n p 1)
    ∙ turn_if n (is_stop c) (go (tagging p (p + 1) w ∷ st) between) (go st (in_tag p w))
ended_later n at st (in_text p w) c = refl
ended_later n at st (in_escape p w) c = refl
ended_later n at st (in_comment p) c = refl

taken_later : (n at : ℕ) (st : List Frame) (m : Mode) (c : ℕ) → taken (n + at) (frames_later n st) (mode_later n m) c ≡ turn_later n (taken at st m c)
taken_later n at st between c = begins_later n at st c (class c)
taken_later n at st (in_run p w) c = refl
taken_later n at st (after_hash p w) c = goes_on_later n at st p w c (behind c)
taken_later n at st (after_backslash p w) c = refl
taken_later n at st (in_tag p w) c = refl
taken_later n at st (in_text p w) c = quotes_later n at st p w c (quoted c)
taken_later n at st (in_escape p w) c = refl
taken_later n at st (in_comment p) c = turn_if n (is_newline c) (go st between) (go st (in_comment p))

-- the limit
outermost_later : (n p : ℕ) (st : List Frame) → outermost (n + p) (frames_later n st) ≡ n + outermost p st
outermost_later n p [] = refl
outermost_later n p (frame k o vs ∷ st) = outermost_later n o st
outermost_later n p (discarding o ∷ st) = outermost_later n o st
outermost_later n p (tagging o i w ∷ st) = outermost_later n o st

begun_later : (n at : ℕ) (st : List Frame) (m : Mode) → begun (n + at) (frames_later n st) (mode_later n m) ≡ n + begun at st m
begun_later n at st between = outermost_later n at st
begun_later n at st (in_run p w) = outermost_later n p st
begun_later n at st (after_hash p w) = outermost_later n p st
begun_later n at st (after_backslash p w) = outermost_later n p st
begun_later n at st (in_tag p w) = outermost_later n p st
begun_later n at st (in_text p w) = outermost_later n p st
begun_later n at st (in_escape p w) = outermost_later n p st
begun_later n at st (in_comment p) = outermost_later n p st

same_test : (n b most at : ℕ) → nat_le (n + b + most) (n + at) ≡ nat_le (b + most) at
same_test n b most at = search (rules, tests)

limited_later : (most n at c : ℕ) (t : Turn) → limited most (n + at) c (turn_later n t) ≡ turn_later n (limited most at c t)
limited_later most n at c (stop a) = refl
limited_later most n at c (go st m) =
    let b = begun at st m in
    ap (λ x. if nat_le (x + most) (n + at) then stop (too_long x) else taken (n + at) (frames_later n st) (mode_later n m) c) (begun_later n at st m)
    ∙ ap (λ x. if x then stop (too_long (n + b)) else taken (n + at) (frames_later n st) (mode_later n m) c) (same_test n b most at)
    ∙ ap (λ t. if nat_le (b + most) at then stop (too_long (n + b)) else t) (taken_later n at st m c)
    ∙ turn_if n (nat_le (b + most) at) (stop (too_long b)) (taken at st m c)

step_later : (most n at : ℕ) (st : List Frame) (m : Mode) (c : ℕ) → step most (n + at) (frames_later n st) (mode_later n m) c ≡ turn_later n (step most at st m c)
step_later most n at st m c = ap (limited most (n + at) c) (ended_later n at st m c) ∙ limited_later most n at c (ended at st m c)

-- all bytes
open_later : (n at : ℕ) (st : List Frame) → open_end (n + at) (frames_later n st) ≡ answer_later n (open_end at st)
open_later n at [] = refl
open_later n at (frame k o vs ∷ st) = ap partial (outermost_later n o st)
open_later n at (discarding o ∷ st) = ap partial (outermost_later n o st)
open_later n at (tagging o i w ∷ st) = ap partial (outermost_later n o st)

end_later : (n at : ℕ) (st : List Frame) (m : Mode) → at_end (n + at) (mode_later n m) (frames_later n st) ≡ answer_later n (at_end at m st)
end_later n at st between = open_later n at st
end_later n at st (in_run p w) = ap partial (outermost_later n p st)
end_later n at st (after_hash p w) = ap partial (outermost_later n p st)
end_later n at st (after_backslash p w) = ap partial (outermost_later n p st)
end_later n at st (in_tag p w) = ap partial (outermost_later n p st)
end_later n at st (in_text p w) = ap partial (outermost_later n p st)
end_later n at st (in_escape p w) = ap partial (outermost_later n p st)
end_later n at st (in_comment p) = open_later n p st

answer_turn : (most n at : ℕ) (s : List ℕ) (t : Turn) →
    ((st : List Frame) (m : Mode) → run most (n + (at + 1)) (frames_later n st) (mode_later n m) s ≡ answer_later n (run most (at + 1) st m s)) →
    on_turn (turn_later n t) (λ st' m'. run most (n + at + 1) st' m' s) ≡ answer_later n (on_turn t (λ st' m'. run most (at + 1) st' m' s))
answer_turn most n at s (go st m) ih = ap (λ x. run most x (frames_later n st) (mode_later n m) s) (add_assoc n at 1) ∙ ih st m
answer_turn most n at s (stop a) ih = refl

pub run_later : (most n at : ℕ) (s : List ℕ) (st : List Frame) (m : Mode) → run most (n + at) (frames_later n st) (mode_later n m) s ≡ answer_later n (run most at st m s)
unfolding run
run_later most n at [] st m = end_later n at st m
run_later most n at (c ∷ s) st m =
    ap (λ t. on_turn t (λ st' m'. run most (n + at + 1) st' m' s)) (step_later most n at st m c)
    ∙ answer_turn most n at s (step most at st m c) (λ st2 m2. run_later most n (at + 1) s st2 m2)
