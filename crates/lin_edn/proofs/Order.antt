-- What stands at the top begins no later as bytes are taken, and a greater limit answers alike.
use Rattle.std.proofs.Common.{◌≡◌, ℕ, ◌+◌, ◌<◌, ◌≤◌, Bool, true, false, List, [], ◌∷◌, ◌++◌, length, refl, sym, ap, ◌∙◌, subst, arith, Option, Some, None, nat_le, ◌==◌, if◌then◌else◌}
use Rattle.lin_bytes.specs.Bytes.{a_set, Class, white, semicolon, opener, closer, quote, backslash, hash, inside, class, is_stop, is_newline, closing, Behind, behind, opens_set, opens_text, discards, joins, stands_apart, names_tag, Quoted, quoted, ends, escapes, stays}
use Rattle.lin_edn.specs.Grammar.{Frame, frame, discarding, tagging, outermost}
use Rattle.lin_edn.specs.inner.Machine.{Mode, between, in_run, after_hash, after_backslash, in_tag, in_text, in_escape, in_comment, Answer, complete, blank, partial, fault, too_long, Turn, go, stop, run, step, limited, ended, taken, begun, on_turn, put, begins, goes_on, quotes, apart, close, closed, at_end}
use Rattle.lin_edn.specs.Run.{run_value}
use Rattle.lin_edn.specs.Value.{Value, atom, text, tagged, made}
use Rattle.lin_edn.specs.declared.EdnCause.{EdnCause}
use Rattle.lin_edn.specs.declared.EdnCause.TheVariants.{Unbalanced, TooDeep}
use Rattle.lin_edn.proofs.Limit.{is_above, is_past, is_under}

-- what is open before a place begins between lo and that place
abbrev pub IsWithin : ℕ → ℕ → List Frame → Mode → Type 0
IsWithin lo at st m = (lo ≤ begun at st m) × (begun at st m ≤ at)

-- after what a byte ends before itself
abbrev EndOrder : ℕ → ℕ → Turn → Type 0
EndOrder lo at (go st m) = IsWithin lo at st m
EndOrder lo at (stop (complete v p q)) = lo ≤ p
EndOrder lo at (stop (blank q)) = ⊥
EndOrder lo at (stop (partial p)) = ⊥
EndOrder lo at (stop (fault j i k)) = ⊥
EndOrder lo at (stop (too_long p)) = ⊥

-- after a byte: a fault is at that byte, and too long is told at least so many bytes before it
abbrev pub TurnOrder : ℕ → ℕ → ℕ → Turn → Type 0
TurnOrder most lo at (go st m) = IsWithin lo (at + 1) st m
TurnOrder most lo at (stop (complete v p q)) = lo ≤ p
TurnOrder most lo at (stop (blank q)) = ⊥
TurnOrder most lo at (stop (partial p)) = ⊥
TurnOrder most lo at (stop (fault j i k)) = j ≡ at
TurnOrder most lo at (stop (too_long p)) = (lo ≤ p) × (p + most ≤ at)

within_here : (lo o q : ℕ) (st : List Frame) → lo ≤ outermost o st → outermost o st ≤ q → IsWithin lo q st between
within_here lo o q [] a b = (omega arith, omega arith)
within_here lo o q (f ∷ st) a b = (a, b)

put_order : (lo : ℕ) (v : Value) (p : ℕ) (st : List Frame) (q : ℕ) → lo ≤ outermost p st → outermost p st ≤ q → EndOrder lo q (put v p st q)
put_order lo v p [] q a b = a
put_order lo v p (frame k o vs ∷ st) q a b = (a, b)
put_order lo v p (discarding o ∷ st) q a b = within_here lo o q st a b
put_order lo v p (tagging o i w ∷ st) q a b = put_order lo (tagged i w v) o st q a b

end_turn : (most lo at : ℕ) (t : Turn) → EndOrder lo (at + 1) t → TurnOrder most lo at t
end_turn most lo at (go st m) h = h
end_turn most lo at (stop (complete v p q)) h = h
end_turn most lo at (stop (blank q)) h = h
end_turn most lo at (stop (partial p)) h = h
end_turn most lo at (stop (fault j i k)) h = absurd h
end_turn most lo at (stop (too_long p)) h = absurd h

put_turn : (most lo at : ℕ) (v : Value) (p : ℕ) (st : List Frame) → lo ≤ outermost p st → outermost p st ≤ at → TurnOrder most lo at (put v p st (at + 1))
put_turn most lo at v p st a b = end_turn most lo at (put v p st (at + 1)) (put_order lo v p st (at + 1) a (omega arith))

-- a byte where an element may begin
more : (lo at p : ℕ) → lo ≤ p → p ≤ at → (lo ≤ p) × (p ≤ at + 1)
more lo at p a b = (a, omega arith)

deeper_if : (most lo at p : ℕ) (t : Turn) → TurnOrder most lo at t → (b : Bool) → TurnOrder most lo at (if b then stop (fault at p TooDeep) else t)
deeper_if most lo at p t h true = refl
deeper_if most lo at p t h false = h

closed_order : (most lo at : ℕ) (m : Option Value) (p : ℕ) (st : List Frame) → lo ≤ outermost p st → outermost p st ≤ at → TurnOrder most lo at (closed m p st at)
closed_order most lo at None p st a b = refl
closed_order most lo at (Some v) p st a b = put_turn most lo at v p st a b

fits_order : (most lo at : ℕ) (m : Option Value) (p : ℕ) (st : List Frame) → lo ≤ outermost p st → outermost p st ≤ at → (b : Bool) →
    TurnOrder most lo at (if b then closed m p st at else stop (fault at at Unbalanced))
fits_order most lo at m p st a b true = closed_order most lo at m p st a b
fits_order most lo at m p st a b false = refl

close_order : (most lo at : ℕ) (st : List Frame) (c : ℕ) → lo ≤ outermost at st → outermost at st ≤ at → TurnOrder most lo at (close at st c)
close_order most lo at [] c a b = refl
close_order most lo at (frame k p vs ∷ st) c a b = fits_order most lo at (made k vs) p st a b (closing k == c)
close_order most lo at (discarding p ∷ st) c a b = refl
close_order most lo at (tagging p i w ∷ st) c a b = refl

begins_order : (most lo at : ℕ) (st : List Frame) (c : ℕ) → lo ≤ outermost at st → outermost at st ≤ at → (k : Class) → TurnOrder most lo at (begins k at st c)
begins_order most lo at st c a b white = within_here lo at (at + 1) st a (omega arith)
begins_order most lo at st c a b semicolon = more lo at (outermost at st) a b
begins_order most lo at st c a b (opener k) = deeper_if most lo at at (go (frame k at [] ∷ st) between) (more lo at (outermost at st) a b) (nat_le 64 (length st))
begins_order most lo at st c a b closer = close_order most lo at st c a b
begins_order most lo at st c a b quote = more lo at (outermost at st) a b
begins_order most lo at st c a b backslash = more lo at (outermost at st) a b
begins_order most lo at st c a b hash = more lo at (outermost at st) a b
begins_order most lo at st c a b inside = more lo at (outermost at st) a b

goes_on_order : (most lo at p : ℕ) (w : List ℕ) (st : List Frame) (c : ℕ) → lo ≤ outermost p st → outermost p st ≤ at → (k : Behind) →
    TurnOrder most lo at (goes_on k at st p w c)
goes_on_order most lo at p w st c a b opens_set = deeper_if most lo at p (go (frame a_set p [] ∷ st) between) (more lo at (outermost p st) a b) (nat_le 64 (length st))
goes_on_order most lo at p w st c a b opens_text = more lo at (outermost p st) a b
goes_on_order most lo at p w st c a b discards = deeper_if most lo at p (go (discarding p ∷ st) between) (more lo at (outermost p st) a b) (nat_le 64 (length st))
goes_on_order most lo at p w st c a b joins = more lo at (outermost p st) a b
goes_on_order most lo at p w st c a b stands_apart = more lo at (outermost p st) a b
goes_on_order most lo at p w st c a b names_tag = deeper_if most lo at p (go st (in_tag p (c ∷ []))) (more lo at (outermost p st) a b) (nat_le 64 (length st))

quotes_order : (most lo at p : ℕ) (w : List ℕ) (st : List Frame) (c : ℕ) → lo ≤ outermost p st → outermost p st ≤ at → (k : Quoted) →
    TurnOrder most lo at (quotes k at st p w c)
quotes_order most lo at p w st c a b ends = put_turn most lo at (text p (w ++ c ∷ [])) p st a b
quotes_order most lo at p w st c a b escapes = more lo at (outermost p st) a b
quotes_order most lo at p w st c a b stays = more lo at (outermost p st) a b

comment_order : (most lo at p : ℕ) (st : List Frame) → lo ≤ outermost p st → outermost p st ≤ at → (b : Bool) →
    TurnOrder most lo at (if b then go st between else go st (in_comment p))
comment_order most lo at p st a b true = within_here lo p (at + 1) st a (omega arith)
comment_order most lo at p st a b false = more lo at (outermost p st) a b

taken_order : (most lo at : ℕ) (st : List Frame) (m : Mode) (c : ℕ) → lo ≤ begun at st m → begun at st m ≤ at → TurnOrder most lo at (taken at st m c)
taken_order most lo at st between c a b = begins_order most lo at st c a b (class c)
taken_order most lo at st (in_run p w) c a b = more lo at (outermost p st) a b
taken_order most lo at st (after_hash p w) c a b = goes_on_order most lo at p w st c a b (behind c)
taken_order most lo at st (after_backslash p w) c a b = more lo at (outermost p st) a b
taken_order most lo at st (in_tag p w) c a b = more lo at (outermost p st) a b
taken_order most lo at st (in_text p w) c a b = quotes_order most lo at p w st c a b (quoted c)
taken_order most lo at st (in_escape p w) c a b = more lo at (outermost p st) a b
taken_order most lo at st (in_comment p) c a b = comment_order most lo at p st a b (is_newline c)

-- what a byte ends before itself
run_order_if : (lo at p : ℕ) (w : List ℕ) (st : List Frame) → lo ≤ outermost p st → outermost p st ≤ at → (b : Bool) →
    EndOrder lo at (if b then put (run_value p w) p st at else go st (in_run p w))
run_order_if lo at p w st a b true = put_order lo (run_value p w) p st at a b
run_order_if lo at p w st a b false = (a, b)

apart_order : (lo at p : ℕ) (w : List ℕ) (st : List Frame) → lo ≤ outermost p st → outermost p st ≤ at → (k : Behind) → EndOrder lo at (apart k at st p w)
apart_order lo at p w st a b opens_set = (a, b)
apart_order lo at p w st a b opens_text = (a, b)
apart_order lo at p w st a b discards = (a, b)
apart_order lo at p w st a b joins = (a, b)
apart_order lo at p w st a b stands_apart = put_order lo (atom p w) p st at a b
apart_order lo at p w st a b names_tag = (a, b)

tag_order_if : (lo at p : ℕ) (w : List ℕ) (st : List Frame) → lo ≤ outermost p st → outermost p st ≤ at → (b : Bool) →
    EndOrder lo at (if b then go (tagging p (p + 1) w ∷ st) between else go st (in_tag p w))
tag_order_if lo at p w st a b true = (a, b)
tag_order_if lo at p w st a b false = (a, b)

ended_order : (lo at : ℕ) (st : List Frame) (m : Mode) (c : ℕ) → lo ≤ begun at st m → begun at st m ≤ at → EndOrder lo at (ended at st m c)
ended_order lo at st between c a b = (a, b)
ended_order lo at st (in_run p w) c a b = run_order_if lo at p w st a b (is_stop c)
ended_order lo at st (after_hash p w) c a b = apart_order lo at p w st a b (behind c)
ended_order lo at st (after_backslash p w) c a b = (a, b)
ended_order lo at st (in_tag p w) c a b = tag_order_if lo at p w st a b (is_stop c)
ended_order lo at st (in_text p w) c a b = (a, b)
ended_order lo at st (in_escape p w) c a b = (a, b)
ended_order lo at st (in_comment p) c a b = (a, b)

limit_if : (most lo at : ℕ) (st : List Frame) (m : Mode) (c : ℕ) → lo ≤ begun at st m → begun at st m ≤ at → (b : Bool) → nat_le (begun at st m + most) at ≡ b →
    TurnOrder most lo at (if b then stop (too_long (begun at st m)) else taken at st m c)
limit_if most lo at st m c a b true e = (a, is_past (begun at st m + most) at e)
limit_if most lo at st m c a b false e = taken_order most lo at st m c a b

limited_order : (most lo at c : ℕ) (t : Turn) → EndOrder lo at t → TurnOrder most lo at (limited most at c t)
limited_order most lo at c (go st m) h = limit_if most lo at st m c h.0 h.1 (nat_le (begun at st m + most) at) refl
limited_order most lo at c (stop (complete v p q)) h = h
limited_order most lo at c (stop (blank q)) h = h
limited_order most lo at c (stop (partial p)) h = h
limited_order most lo at c (stop (fault j i k)) h = absurd h
limited_order most lo at c (stop (too_long p)) h = absurd h

pub step_order : (most lo at : ℕ) (st : List Frame) (m : Mode) (c : ℕ) → lo ≤ begun at st m → begun at st m ≤ at → TurnOrder most lo at (step most at st m c)
step_order most lo at st m c a b = limited_order most lo at c (ended at st m c) (ended_order lo at st m c a b)

-- what is answered begins no earlier
abbrev pub AnswerOrder : ℕ → Answer → Type 0
AnswerOrder lo (complete v p q) = lo ≤ p
AnswerOrder lo (blank q) = lo ≤ q
AnswerOrder lo (partial p) = lo ≤ p
AnswerOrder lo (fault j i k) = lo ≤ j
AnswerOrder lo (too_long p) = lo ≤ p

end_order : (lo at : ℕ) (st : List Frame) (m : Mode) → lo ≤ begun at st m → AnswerOrder lo (at_end at m st)
end_order lo at [] between a = a
end_order lo at (f ∷ st) between a = a
end_order lo at st (in_run p w) a = a
end_order lo at st (after_hash p w) a = a
end_order lo at st (after_backslash p w) a = a
end_order lo at st (in_tag p w) a = a
end_order lo at st (in_text p w) a = a
end_order lo at st (in_escape p w) a = a
end_order lo at [] (in_comment p) a = a
end_order lo at (f ∷ st) (in_comment p) a = a

answer_turn : (most lo at : ℕ) (s : List ℕ) (t : Turn) → lo ≤ at → TurnOrder most lo at t →
    ((st : List Frame) (m : Mode) → IsWithin lo (at + 1) st m → AnswerOrder lo (run most (at + 1) st m s)) →
    AnswerOrder lo (on_turn t (λ st' m'. run most (at + 1) st' m' s))
answer_turn most lo at s (go st m) le h ih = ih st m h
answer_turn most lo at s (stop (complete v p q)) le h ih = h
answer_turn most lo at s (stop (blank q)) le h ih = absurd h
answer_turn most lo at s (stop (partial p)) le h ih = absurd h
answer_turn most lo at s (stop (fault j i k)) le h ih = omega arith
answer_turn most lo at s (stop (too_long p)) le h ih = h.0

pub run_order : (most lo : ℕ) (s : List ℕ) (at : ℕ) (st : List Frame) (m : Mode) → lo ≤ begun at st m → begun at st m ≤ at → AnswerOrder lo (run most at st m s)
unfolding run
run_order most lo [] at st m a b = end_order lo at st m a
run_order most lo (c ∷ s) at st m a b =
    answer_turn most lo at s (step most at st m c) (omega arith) (step_order most lo at st m c a b)
    (λ st2 m2 h. run_order most lo s (at + 1) st2 m2 h.0 h.1)

-- an answer stays where the limit grows, unless it is that something is too long
wide_taken : (less most at : ℕ) (s : List ℕ) (t : Turn) (a : Answer) →
    ((st : List Frame) (m : Mode) → run less (at + 1) st m s ≡ a → run most (at + 1) st m s ≡ a) →
    on_turn t (λ st' m'. run less (at + 1) st' m' s) ≡ a → on_turn t (λ st' m'. run most (at + 1) st' m' s) ≡ a
wide_taken less most at s (go st m) a ih h = ih st m h
wide_taken less most at s (stop b) a ih h = h

wide_if : (less most : ℕ) → less ≤ most → (at c : ℕ) (s : List ℕ) (st : List Frame) (m : Mode) (a : Answer) → ((p : ℕ) → a ≡ too_long p → ⊥) →
    ((st : List Frame) (m : Mode) → run less (at + 1) st m s ≡ a → run most (at + 1) st m s ≡ a) →
    (b : Bool) → nat_le (begun at st m + less) at ≡ b →
    on_turn (if b then stop (too_long (begun at st m)) else taken at st m c) (λ st' m'. run less (at + 1) st' m' s) ≡ a →
    on_turn (limited most at c (go st m)) (λ st' m'. run most (at + 1) st' m' s) ≡ a
wide_if less most le at c s st m a short ih true e h = absurd (short (begun at st m) (sym h))
wide_if less most le at c s st m a short ih false e h =
    let under : at < begun at st m + less = is_under (begun at st m + less) at e in
    ap (λ b. on_turn (if b then stop (too_long (begun at st m)) else taken at st m c) (λ st2 m2. run most (at + 1) st2 m2 s)) (is_above (begun at st m + most) at (omega arith))
    ∙ wide_taken less most at s (taken at st m c) a ih h

wide_turn : (less most : ℕ) → less ≤ most → (at c : ℕ) (s : List ℕ) (t : Turn) (a : Answer) → ((p : ℕ) → a ≡ too_long p → ⊥) →
    ((st : List Frame) (m : Mode) → run less (at + 1) st m s ≡ a → run most (at + 1) st m s ≡ a) →
    on_turn (limited less at c t) (λ st' m'. run less (at + 1) st' m' s) ≡ a →
    on_turn (limited most at c t) (λ st' m'. run most (at + 1) st' m' s) ≡ a
wide_turn less most le at c s (stop b) a short ih h = h
wide_turn less most le at c s (go st m) a short ih h = wide_if less most le at c s st m a short ih (nat_le (begun at st m + less) at) refl h

pub wider : (less most : ℕ) → less ≤ most → (s : List ℕ) (at : ℕ) (st : List Frame) (m : Mode) (a : Answer) → ((p : ℕ) → a ≡ too_long p → ⊥) →
    run less at st m s ≡ a → run most at st m s ≡ a
unfolding run
wider less most le [] at st m a short h = h
wider less most le (c ∷ s) at st m a short h =
    wide_turn less most le at c s (ended at st m c) a short (λ st2 m2 h2. wider less most le s (at + 1) st2 m2 a short h2) h

-- an answer that is told at a byte stays with more bytes
abbrev pub IsEarly : Answer → Type 0
IsEarly (complete v p q) = Unit {0}
IsEarly (blank q) = ⊥
IsEarly (partial p) = ⊥
IsEarly (fault j i k) = Unit {0}
IsEarly (too_long p) = Unit {0}

late_end : (at : ℕ) (st : List Frame) (m : Mode) → IsEarly (at_end at m st) → ⊥
late_end at [] between h = h
late_end at (f ∷ st) between h = h
late_end at st (in_run p w) h = h
late_end at st (after_hash p w) h = h
late_end at st (after_backslash p w) h = h
late_end at st (in_tag p w) h = h
late_end at st (in_text p w) h = h
late_end at st (in_escape p w) h = h
late_end at [] (in_comment p) h = h
late_end at (f ∷ st) (in_comment p) h = h

more_turn : (most at : ℕ) (s x : List ℕ) (t : Turn) (a : Answer) → ((st : List Frame) (m : Mode) → run most at st m s ≡ a → run most at st m (s ++ x) ≡ a) →
    on_turn t (λ st' m'. run most at st' m' s) ≡ a → on_turn t (λ st' m'. run most at st' m' (s ++ x)) ≡ a
more_turn most at s x (go st m) a ih h = ih st m h
more_turn most at s x (stop b) a ih h = h

pub run_more : (most at : ℕ) (s x : List ℕ) (st : List Frame) (m : Mode) (a : Answer) → IsEarly a → run most at st m s ≡ a → run most at st m (s ++ x) ≡ a
unfolding run
run_more most at [] x st m a early h = absurd (late_end at st m (subst IsEarly (sym h) early))
run_more most at (c ∷ s) x st m a early h =
    more_turn most (at + 1) s x (step most at st m c) a (λ st2 m2 e. run_more most (at + 1) s x st2 m2 a early e) h

-- a fault is told by the bytes up to its own
later_turn : (most lo at j i : ℕ) (k : EdnCause) (s : List ℕ) (t : Turn) → TurnOrder most lo at t →
    ((st : List Frame) (m : Mode) → begun (at + 1) st m ≤ at + 1 → run most (at + 1) st m s ≡ fault j i k → at + 1 ≤ j) →
    on_turn t (λ st' m'. run most (at + 1) st' m' s) ≡ fault j i k → at ≤ j
later_turn most lo at j i k s (go st m) order ih h = let later : at + 1 ≤ j = ih st m order.1 h in omega arith
later_turn most lo at j i k s (stop a) order ih h = let here : j ≡ at = subst (λ x. TurnOrder most lo at (stop x)) h order in omega arith

fault_later : (most at j i : ℕ) (k : EdnCause) (s : List ℕ) (st : List Frame) (m : Mode) → begun at st m ≤ at → run most at st m s ≡ fault j i k → at ≤ j
unfolding run
fault_later most at j i k [] st m b h = absurd (late_end at st m (subst IsEarly (sym h) tt))
fault_later most at j i k (c ∷ s) st m b h =
    later_turn most (begun at st m) at j i k s (step most at st m c) (step_order most (begun at st m) at st m c (omega arith) b)
    (λ st2 m2 b2 h2. fault_later most (at + 1) j i k s st2 m2 b2 h2) h

less_turn : (most lo at j i : ℕ) (k : EdnCause) (s x : List ℕ) (t : Turn) → TurnOrder most lo at t →
    ((st : List Frame) (m : Mode) → begun (at + 1) st m ≤ at + 1 → run most (at + 1) st m (s ++ x) ≡ fault j i k → run most (at + 1) st m s ≡ fault j i k) →
    on_turn t (λ st' m'. run most (at + 1) st' m' (s ++ x)) ≡ fault j i k → on_turn t (λ st' m'. run most (at + 1) st' m' s) ≡ fault j i k
less_turn most lo at j i k s x (go st m) order ih h = ih st m order.1 h
less_turn most lo at j i k s x (stop a) order ih h = h

pub fault_less : (most at j i : ℕ) (k : EdnCause) (s x : List ℕ) (st : List Frame) (m : Mode) → begun at st m ≤ at → j < at + length s →
    run most at st m (s ++ x) ≡ fault j i k → run most at st m s ≡ fault j i k
unfolding run
fault_less most at j i k [] x st m b lt h = (let later : at ≤ j = fault_later most at j i k x st m b h in absurd (omega arith))
fault_less most at j i k (c ∷ s) x st m b lt h =
    less_turn most (begun at st m) at j i k s x (step most at st m c) (step_order most (begun at st m) at st m c (omega arith) b)
    (λ st2 m2 b2 h2. fault_less most (at + 1) j i k s x st2 m2 b2 (omega arith) h2) h
