-- What is read so far can be finished.
use Rattle.std.proofs.Common.{◌≡◌, true, false, not, is_some, ℕ, suc, ◌+◌, ◌<◌, ◌≤◌, List, [], ◌∷◌, ◌++◌, length, take, refl, sym, ap, ◌∙◌, arith, Option, Some, None, option_map, subst, append_assoc, append-nil, length-append}
use Rattle.std.proofs.Math.Seq.{take-append_seam}
use Rattle.lin_bytes.specs.Bytes.{Kind, a_list, a_vector, a_set, a_map, closing}
use Rattle.lin_edn.specs.Grammar.{one, first, character, whole_text, pair, Comment, Discard, discards, Blank, white_byte, comment, discarded, Blanks, no_blank, one_more, Element, run as a_run, hash_alone, tagged_element, collection, Row, blank as blank_row, element, longest, ShortBlanks, no_blank_yet, one_more_short, Whole, an_element, a_discard, Thing, element_or_discard, a_comment, Reads, reads, IsViable, IsLeast, Frame, frame, discarding, tagging, Open, none_open, within, waits, awaits, outermost, place_of}
use Rattle.lin_edn.specs.inner.Machine.{Mode, between, in_run, after_hash, after_backslash, in_tag, in_text, in_escape, in_comment, Answer, complete, blank, partial, fault, too_long, Turn, go, stop, run, step, on_turn, at_end, begun}
use Rattle.lin_edn.specs.Run.{run_value}
use Rattle.lin_edn.specs.inner.Skimming.{grown}
use Rattle.lin_edn.specs.Value.{Value, Entries, atom, text, tagged, map, entry, made, pairs_from}
use Rattle.lin_edn.specs.declared.EdnCause.{EdnCause}
use Rattle.lin_edn.proofs.Back.{Stands, Bound, AfterTurn, step_holds}
use Rattle.lin_edn.proofs.Forth.{element_run, long_run}
use Rattle.lin_edn.proofs.Order.{TurnOrder, step_order, wider}
use Rattle.lin_edn.specs.lemmas.Rising.{below, comment_past, element_past, escape_past, first_below, inside_past, one_past, tag_past, text_past}

-- whether a level can be closed after one more element
some_map : (f : Entries → Value) (o : Option Entries) → is_some (option_map f o) ≡ is_some o
some_map f None = refl
some_map f (Some es) = refl

some_entry : (k v : Value) (o : Option Entries) → is_some (option_map (entry k v) o) ≡ is_some o
some_entry k v None = refl
some_entry k v (Some es) = refl

paired : (o : Option Value) (vs : List Value) (v : Value) → is_some (pairs_from o (vs ++ v ∷ [])) ≡ not (is_some (pairs_from o vs))
paired None [] v = refl
paired (Some k) [] v = refl
paired None (w ∷ vs) v = paired (Some w) vs v
paired (Some k) (w ∷ vs) v =
    some_entry k w (pairs_from None (vs ++ v ∷ [])) ∙ paired None vs v ∙ ap not (sym (some_entry k w (pairs_from None vs)))

pub made_grown : (k : Kind) (vs : List Value) (v : Value) → is_some (made k (vs ++ v ∷ [])) ≡ grown k (is_some (made k vs))
made_grown a_list vs v = refl
made_grown a_vector vs v = refl
made_grown a_set vs v = refl
made_grown a_map vs v =
    some_map map (pairs_from None (vs ++ v ∷ [])) ∙ paired None vs v ∙ ap not (sym (some_map map (pairs_from None vs)))

pub made_empty : (k : Kind) → is_some (made k []) ≡ true
made_empty a_list = refl
made_empty a_vector = refl
made_empty a_set = refl
made_empty a_map = refl

grown_again : (k : Kind) → grown k false ≡ true
grown_again a_list = refl
grown_again a_vector = refl
grown_again a_set = refl
grown_again a_map = refl

some_of : (o : Option Value) → is_some o ≡ true → (v : Value) × (o ≡ Some v)
some_of None e = absurd (cc)
some_of (Some v) e = (v, refl)

made_next : (k : Kind) (vs : List Value) (w : Value) → made k vs ≡ None → (v : Value) × (made k (vs ++ w ∷ []) ≡ Some v)
made_next k vs w h = some_of (made k (vs ++ w ∷ [])) (made_grown k vs w ∙ ap (λ o. grown k (is_some o)) h ∙ grown_again k)

-- the run `0`, with a space after it
abbrev zero_at : ℕ → Value
zero_at at = run_value at (48 ∷ [])

zero_run : (n at : ℕ) (x : List ℕ) → Element n at (48 ∷ 32 ∷ x) (zero_at at) (at + 1) (32 ∷ x)
zero_run n at x = a_run (first (one refl)) refl

space : (n at : ℕ) (x : List ℕ) → Blank n at (32 ∷ x) (at + 1) x
space n at x = white_byte (one refl)

pub long : {q : ℕ} {s t : List ℕ} → ShortBlanks s q t → Blanks 64 0 s q t
long no_blank_yet = no_blank
long (one_more_short bs b le) = one_more (long bs) b

inner_skip : {n q r : ℕ} {s t u : List ℕ} {f : Frame} {st : List Frame} → Open s n (f ∷ st) q t → Blank n q t r u → Open s n (f ∷ st) r u
inner_skip (within o i row) b = within o i (blank_row row b)
inner_skip (waits o h d bs) b = waits o h d (one_more bs b)
inner_skip (awaits o tg h bs) b = awaits o tg h (one_more bs b)

-- the bytes have a whole element or discard from a place on, which ends no earlier than another, and begin with blanks and an element
abbrev Finished : List ℕ → ℕ → ℕ → Type 0
Finished s p at = ((q : ℕ) × (at ≤ q) × Whole s p q) × Reads s

sooner : {s : List ℕ} {p at later : ℕ} → at ≤ later → Finished s p later → Finished s p at
sooner {later = later} le h = ((h.0.0, (let e : later ≤ h.0.0 = h.0.1 in omega arith), h.0.2), h.1)

-- some bytes finish what is open
abbrev CanEnd : ℕ → List Frame → Mode → ℕ → Type 0
CanEnd at st m p = (x : List ℕ) × ((s : List ℕ) → Stands s at st m x → Finished s p at)

-- some bytes after a space finish what is open after one more element
abbrev CanPut : List Frame → Type 0
CanPut st = (p at : ℕ) (v : Value) → (x : List ℕ) ×
    ((s : List ℕ) (n : ℕ) (t : List ℕ) → Open s n st p t → Element n p t v at (32 ∷ x) → Finished s (outermost p st) at)

-- and after one more discard
abbrev CanSkip : List Frame → Type 0
CanSkip st = (p at : ℕ) → (x : List ℕ) ×
    ((s : List ℕ) (n : ℕ) (t : List ℕ) → Open s n st p t → Discard n p t at (32 ∷ x) → Finished s (outermost p st) at)

-- closing a bracket
closed_end : {s u x : List ℕ} {n o at p end : ℕ} {st : List Frame} {vs : List Value} {k : Kind} {v : Value} →
    Open s n (frame k o vs ∷ st) at u → u ≡ closing k ∷ 32 ∷ x → made k vs ≡ Some v →
    ((m : ℕ) (t : List ℕ) → Open s m st o t → Element m o t v (at + 1) (32 ∷ x) → Finished s p end) → Finished s p end
closed_end (within {n = n} {q = q} {r = r} {t = t} {u = u} {vs = vs} o i row) e m use_it =
    use_it (suc n) t o (collection i (subst (λ y. Row n q u vs r y) e row) m)

made_end : (st : List Frame) → CanPut st → (k : Kind) (o at : ℕ) (vs : List Value) (v : Value) → made k vs ≡ Some v →
    CanEnd at (frame k o vs ∷ st) between (outermost o st)
made_end st can k o at vs v e =
    let r = can o (at + 1) v in
    (closing k ∷ 32 ∷ r.0, λ s h. sooner (omega arith) (closed_end h.1 refl e (λ m t. r.1 s m t)))

put_frame : {s t u : List ℕ} {n p at o : ℕ} {st : List Frame} {vs : List Value} {k : Kind} {v : Value} →
    Open s n (frame k o vs ∷ st) p t → Element n p t v at u → Open s n (frame k o (vs ++ v ∷ []) ∷ st) at u
put_frame (within o i row) e = within o i (element row e)

made_case : (st : List Frame) → CanPut st → (k : Kind) (o at : ℕ) (vs : List Value) (m : Option Value) → made k vs ≡ m →
    CanEnd at (frame k o vs ∷ st) between (outermost o st)
made_case st can k o at vs (Some v) e = made_end st can k o at vs v e
made_case st can k o at vs None e =
    let next = made_next k vs (zero_at at) e in
    let r = made_end st can k o (at + 1 + 1) (vs ++ zero_at at ∷ []) next.0 next.1 in
    (48 ∷ 32 ∷ r.0, λ s h. sooner (omega arith) (r.1 s (h.0, inner_skip (put_frame h.1 (zero_run h.0 at r.0)) (space h.0 (at + 1) r.0))))

-- giving a discard or a tag its element
waits_end : {s u x : List ℕ} {n o at q p end : ℕ} {st : List Frame} {v : Value} →
    Open s n (discarding o ∷ st) at u → Element n at u v q x →
    ((m : ℕ) (t : List ℕ) → Open s m st o t → Discard m o t q x → Finished s p end) → Finished s p end
waits_end (waits {n = n} {t = t} o h d bs) e use_it = use_it (suc n) t o (discards h d bs e)

discard_end : (st : List Frame) → CanSkip st → (o at : ℕ) → CanEnd at (discarding o ∷ st) between (outermost o st)
discard_end st can o at =
    let r = can o (at + 1) in
    (48 ∷ 32 ∷ r.0, λ s h. sooner (omega arith) (waits_end h.1 (zero_run h.0 at r.0) (λ m t. r.1 s m t)))

awaits_end : {s u x w : List ℕ} {n o i at q p end : ℕ} {st : List Frame} {v : Value} →
    Open s n (tagging o i w ∷ st) at u → Element n at u v q x →
    ((m : ℕ) (t : List ℕ) → Open s m st o t → Element m o t (tagged i w v) q x → Finished s p end) → Finished s p end
awaits_end (awaits {n = n} {t = t} o tg h bs) e use_it = use_it (suc n) t o (tagged_element tg h bs e)

tagged_end : (st : List Frame) → CanPut st → (o i at : ℕ) (w : List ℕ) → CanEnd at (tagging o i w ∷ st) between (outermost o st)
tagged_end st can o i at w =
    let r = can o (at + 1) (tagged i w (zero_at at)) in
    (48 ∷ 32 ∷ r.0, λ s h. sooner (omega arith) (awaits_end h.1 (zero_run h.0 at r.0) (λ m t. r.1 s m t)))

frame_end : (f : Frame) (st : List Frame) → CanPut st → CanSkip st → (at : ℕ) → CanEnd at (f ∷ st) between (outermost (place_of f) st)
frame_end (frame k o vs) st put_on skip_on at = made_case st put_on k o at vs (made k vs) refl
frame_end (discarding o) st put_on skip_on at = discard_end st skip_on o at
frame_end (tagging o i w) st put_on skip_on at = tagged_end st put_on o i at w

top_put : {s t u : List ℕ} {n p at : ℕ} {v : Value} → Open s n [] p t → Element n p t v at u → Finished s p at
top_put {at = at} (none_open bs) e = ((at, omega arith, an_element bs e), reads (long bs) e)

top_skip : {s t : List ℕ} {n p at : ℕ} → Open s n [] p t → Discard n p t at (32 ∷ 48 ∷ 32 ∷ []) → Finished s p at
top_skip {at = at} (none_open bs) d = (
  (at, omega arith, a_discard bs d),
  reads (one_more (one_more (long bs) (discarded d)) (space 64 at (48 ∷ 32 ∷ []))) (zero_run 64 (at + 1) []),
)

put_in : (f : Frame) (st : List Frame) → CanPut st → CanSkip st → CanPut (f ∷ st)
put_in (frame k o vs) st put_on skip_on = λ p at v.
    let r = frame_end (frame k o (vs ++ v ∷ [])) st put_on skip_on (at + 1) in
    (r.0, λ s n t h e. sooner (omega arith) (r.1 s (n, inner_skip (put_frame h e) (space n at r.0))))
put_in (discarding o) st put_on skip_on = λ p at v.
    let r = skip_on o at in
    (r.0, λ s n t h e. waits_end h e (λ m t2. r.1 s m t2))
put_in (tagging o i w) st put_on skip_on = λ p at v.
    let r = put_on o at (tagged i w v) in
    (r.0, λ s n t h e. awaits_end h e (λ m t2. r.1 s m t2))

skip_in : (f : Frame) (st : List Frame) → CanPut st → CanSkip st → CanSkip (f ∷ st)
skip_in f st put_on skip_on = λ p at.
    let r = frame_end f st put_on skip_on (at + 1) in
    (r.0, λ s n t h d. sooner (omega arith) (r.1 s (n, inner_skip (inner_skip h (discarded d)) (space n at r.0))))

can : (st : List Frame) → CanPut st × CanSkip st
can [] = (λ p at v. ([], λ s n t h e. top_put h e), λ p at. (48 ∷ 32 ∷ [], λ s n t h d. top_skip h d))
can (f ∷ st) = let c = can st in (put_in f st c.0 c.1, skip_in f st c.0 c.1)

between_end : (f : Frame) (st : List Frame) (at : ℕ) → CanEnd at (f ∷ st) between (outermost (place_of f) st)
between_end f st at = let c = can st in frame_end f st c.0 c.1 at

run_end : (st : List Frame) (at p : ℕ) (w : List ℕ) → CanEnd at st (in_run p w) (outermost p st)
run_end st at p w =
    let r = (can st).0 p at (run_value p w) in
    (32 ∷ r.0, λ s h. r.1 s h.0 h.1 h.2 (a_run h.3 refl))

hash_end : (st : List Frame) (at p : ℕ) (w : List ℕ) → CanEnd at st (after_hash p w) (outermost p st)
hash_end st at p w =
    let r = (can st).0 p at (atom p w) in
    (32 ∷ r.0, λ s h. r.1 s h.0 h.1 h.2 (hash_alone h.3 refl))

backslash_end : (st : List Frame) (at p : ℕ) (w : List ℕ) → CanEnd at st (after_backslash p w) (outermost p st)
backslash_end st at p w =
    let r = (can st).0 p (at + 1) (run_value p (w ++ 32 ∷ [])) in
    (32 ∷ 32 ∷ r.0, λ s h. sooner (omega arith) (r.1 s h.0 h.1 h.2 (a_run (character h.3) refl)))

tag_end : (st : List Frame) (at p : ℕ) (w : List ℕ) → CanEnd at st (in_tag p w) (outermost p st)
tag_end st at p w =
    let r = between_end (tagging p (p + 1) w) st (at + 1) in
    (32 ∷ r.0, λ s h. sooner (omega arith) (r.1 s (h.0, inner_skip (awaits h.2 h.3 refl no_blank) (space h.0 at r.0))))

text_end : (st : List Frame) (at p : ℕ) (w : List ℕ) → CanEnd at st (in_text p w) (outermost p st)
text_end st at p w =
    let r = (can st).0 p (at + 1) (text p (w ++ 34 ∷ [])) in
    (34 ∷ 32 ∷ r.0, λ s h. sooner (omega arith) (r.1 s h.0 h.1 h.2 (whole_text h.3 refl)))

escape_end : (st : List Frame) (at p : ℕ) (w : List ℕ) → CanEnd at st (in_escape p w) (outermost p st)
escape_end st at p w =
    let r = (can st).0 p (at + 1 + 1) (text p ((w ++ 34 ∷ []) ++ 34 ∷ [])) in
    (34 ∷ 34 ∷ 32 ∷ r.0, λ s h. sooner (omega arith) (r.1 s h.0 h.1 h.2 (whole_text (pair h.3) refl)))

comment_end : (f : Frame) (st : List Frame) (at p : ℕ) → CanEnd at (f ∷ st) (in_comment p) (outermost (place_of f) st)
comment_end f st at p =
    let r = between_end f st (at + 1) in
    (10 ∷ r.0, λ s h. sooner (omega arith) (r.1 s (h.0, inner_skip h.2 (comment h.3 refl))))

-- What is open ends in some bytes, and is told as partial before them; or nothing is open at the top but a comment.
data Ends : ℕ → List Frame → Mode → Type 0 where
  top : {at : ℕ} → Ends at [] between
  top_comment : {at p : ℕ} → Ends at [] (in_comment p)
  inner : {at : ℕ} {st : List Frame} {m : Mode} → CanEnd at st m (begun at st m) → at_end at m st ≡ partial (begun at st m) →
      ((s x : List ℕ) → Stands s at st m x → begun at st m < at) → Ends at st m

ends_of : (at : ℕ) (st : List Frame) (m : Mode) → Ends at st m
ends_of at [] between = top
ends_of at (f ∷ st) between = inner (between_end f st at) refl (λ s x k. first_below k.1)
ends_of at st (in_run p w) = inner (run_end st at p w) refl (λ s x k. below k.2 at (inside_past k.3).0)
ends_of at st (after_hash p w) = inner (hash_end st at p w) refl (λ s x k. below k.2 at (one_past k.3).0)
ends_of at st (after_backslash p w) = inner (backslash_end st at p w) refl (λ s x k. below k.2 at (one_past k.3).0)
ends_of at st (in_tag p w) = inner (tag_end st at p w) refl (λ s x k. below k.2 at (tag_past k.3).0)
ends_of at st (in_text p w) = inner (text_end st at p w) refl (λ s x k. below k.2 at (text_past k.3).0)
ends_of at st (in_escape p w) = inner (escape_end st at p w) refl (λ s x k. below k.2 at (escape_past k.3).0)
ends_of at [] (in_comment p) = top_comment
ends_of at (f ∷ st) (in_comment p) = inner (comment_end f st at p) refl
    (λ s x k. let a : outermost (place_of f) st < p = first_below k.2 in let b : p < at = (comment_past k.3).0 in omega arith)

-- what is read so far leads to a state, whatever follows
abbrev pub Reached : List ℕ → ℕ → List Frame → Mode → Type 0
Reached front at st m = (x : List ℕ) → (run longest 0 [] between (front ++ x) ≡ run longest at st m x) × Stands (front ++ x) at st m x

-- some bytes after the front, which ends at a place, make it whole from another place on
abbrev CanGoOn : List ℕ → ℕ → ℕ → Type 0
CanGoOn front at p = (x : List ℕ) × (q : ℕ) × (at ≤ q) × Whole (front ++ x) p q

goes_on_at : (front : List ℕ) (at : ℕ) (st : List Frame) (m : Mode) (p : ℕ) → Reached front at st m → CanEnd at st m p → CanGoOn front at p
goes_on_at front at st m p h r = let f = r.1 (front ++ r.0) (h r.0).1 in (r.0, f.0.0, f.0.1, f.0.2)

top_zero : {s u : List ℕ} {n at : ℕ} → Open s n [] at u → u ≡ 48 ∷ 32 ∷ [] → Reads s
top_zero {s = s} {at = at} (none_open bs) e = reads (subst (λ y. Blanks 64 0 s at y) e (long bs)) (zero_run 64 at [])

commented_zero : {s r : List ℕ} {n at p : ℕ} → Open s n [] p r → Blank 64 p r at (48 ∷ 32 ∷ []) → Reads s
commented_zero {at = at} (none_open bs) b = reads (one_more (long bs) b) (zero_run 64 at [])

viable : {at : ℕ} {st : List Frame} {m : Mode} (front : List ℕ) → Ends at st m → Reached front at st m → IsViable front
viable front top h = (48 ∷ 32 ∷ [], top_zero (h (48 ∷ 32 ∷ [])).1.1 refl)
viable front top_comment h = let k = (h (10 ∷ 48 ∷ 32 ∷ [])).1 in (10 ∷ 48 ∷ 32 ∷ [], commented_zero k.2 (comment k.3 refl))
viable front (inner r e lt) h = let f = r.1 (front ++ r.0) (h r.0).1 in (r.0, f.1)

-- what is open can become whole
abbrev CanBeThing : List ℕ → ℕ → ℕ → Type 0
CanBeThing front at p = (x : List ℕ) × (q : ℕ) × (at ≤ q) × Thing (front ++ x) p q

whole_comment : {s r : List ℕ} {n at p : ℕ} → Open s n [] p r → (u : List ℕ) → Comment p r at u → u ≡ 10 ∷ [] → Thing s p (at + 1)
whole_comment {r = r} {at = at} {p = p} (none_open bs) u i e = a_comment bs (subst (λ y. Comment p r at y) e i) refl

thing : {at : ℕ} {st : List Frame} {m : Mode} (front : List ℕ) → Ends at st m → Reached front at st m → begun at st m < at →
    CanBeThing front at (begun at st m)
thing front top h lt = absurd (omega arith)
thing {at = at} front top_comment h lt = let k = (h (10 ∷ [])).1 in (10 ∷ [], at + 1, omega arith, whole_comment k.2 (10 ∷ []) k.3 refl)
thing {at = at} {st = st} {m = m} front (inner r e b) h lt = let g = goes_on_at front at st m (begun at st m) h r in (g.0, g.1, g.2, element_or_discard g.3)

-- what an answer says of the fronts of the input
abbrev pub Facts : List ℕ → Answer → Type 0
Facts s (complete v p q) = Unit {0}
Facts s (blank q) = Unit {0}
Facts s (partial p) = (p < length s) × (length s ≤ p + longest) × ((t : List ℕ) × ShortBlanks s p t) × CanGoOn s (length s) p
Facts s (fault j i k) = IsLeast s j
Facts s (too_long p) = (p + longest < length s) × ((t : List ℕ) × ShortBlanks s p t) × CanBeThing (take (p + longest) s) (p + longest) p

run_step : (at : ℕ) (st : List Frame) (m : Mode) (c : ℕ) (x : List ℕ) →
    run longest at st m (c ∷ x) ≡ on_turn (step longest at st m c) (λ st' m'. run longest (at + 1) st' m' x)
unfolding run
run_step at st m c x = refl

turns : (front : List ℕ) (at : ℕ) (st : List Frame) (m : Mode) (c : ℕ) (t : Turn) → Reached front at st m → step longest at st m c ≡ t →
    (x : List ℕ) → run longest 0 [] between ((front ++ c ∷ []) ++ x) ≡ on_turn t (λ st' m'. run longest (at + 1) st' m' x)
turns front at st m c t h e x =
    ap (run longest 0 [] between) (append_assoc front (c ∷ []) x) ∙ (h (c ∷ x)).0 ∙ run_step at st m c x
    ∙ ap (λ y. on_turn y (λ st2 m2. run longest (at + 1) st2 m2 x)) e

after : (front : List ℕ) (at : ℕ) (st : List Frame) (m : Mode) (c : ℕ) (t : Turn) → Reached front at st m → Bound at st m → step longest at st m c ≡ t →
    (x : List ℕ) → AfterTurn ((front ++ c ∷ []) ++ x) (at + 1) x t
after front at st m c t h le e x =
    subst (λ l. AfterTurn l (at + 1) x t) (sym (append_assoc front (c ∷ []) x))
    (subst (AfterTurn (front ++ c ∷ x) (at + 1) x) e (step_holds at c (front ++ c ∷ x) x st m (h (c ∷ x)).1 le))

no_clash : (a : Answer) (at p q i : ℕ) (k : EdnCause) (v : Value) → a ≡ fault at i k → a ≡ complete v p q → ⊥
no_clash a at p q i k v e f = cc

-- no text with a fault begins with blanks and an element
not_read : (s : List ℕ) (j i : ℕ) (k : EdnCause) → run longest 0 [] between s ≡ fault j i k → Reads s → ⊥
not_read s j i k h (reads {p = p} {q = q} {v = v} bs e) =
    let rises : p < q = (element_past e).0 in
    no_clash (run (q + longest) 0 [] between s) j p q i k v (wider longest (q + longest) (omega arith) s 0 [] between (fault j i k) (λ o f. cc) h)
    (long_run (q + longest) bs (omega arith) ∙ element_run (q + longest) e [] (omega arith) (omega arith))

-- the front that ends with the byte of a fault is the least that can't be finished
least : (s front : List ℕ) (at : ℕ) (st : List Frame) (m : Mode) (c j i : ℕ) (k : EdnCause) → Reached front at st m → length front ≡ at →
    step longest at st m c ≡ stop (fault j i k) → IsLeast (front ++ c ∷ s) at
least s front at st m c j i k h len e = (
  front,
  c,
  s,
  refl,
  len,
  viable front (ends_of at st m) h,
  λ w. not_read ((front ++ c ∷ []) ++ w.0) j i k (turns front at st m c (stop (fault j i k)) h e w.0) w.1,
)

pub positive : 0 < longest
unfolding longest
positive = omega arith

-- the blanks before what is open
blanks_before : {n p : ℕ} {s t : List ℕ} {st : List Frame} → Open s n st p t → (u : List ℕ) × ShortBlanks s (outermost p st) u
blanks_before (none_open {t = t} bs) = (t, bs)
blanks_before (within o i row) = blanks_before o
blanks_before (waits o h d bs) = blanks_before o
blanks_before (awaits o tg h bs) = blanks_before o

blanks_to : (s0 : List ℕ) (at : ℕ) (st : List Frame) (m : Mode) (x : List ℕ) → Stands s0 at st m x → (u : List ℕ) × ShortBlanks s0 (begun at st m) u
blanks_to s0 at st between x h = blanks_before h.1
blanks_to s0 at st (in_run p w) x h = blanks_before h.2
blanks_to s0 at st (after_hash p w) x h = blanks_before h.2
blanks_to s0 at st (after_backslash p w) x h = blanks_before h.2
blanks_to s0 at st (in_tag p w) x h = blanks_before h.2
blanks_to s0 at st (in_text p w) x h = blanks_before h.2
blanks_to s0 at st (in_escape p w) x h = blanks_before h.2
blanks_to s0 at st (in_comment p) x h = blanks_before h.2

-- what is too long
long_front : (s front : List ℕ) (at : ℕ) (st : List Frame) (m : Mode) (c p : ℕ) → Reached front at st m → length front ≡ at → Bound at st m →
    begun at st m ≤ p → p + longest ≤ at → Facts (front ++ c ∷ s) (too_long p)
long_front s front at st m c p h len le a b =
    let pos : 0 < longest = positive in
    let here : begun at st m ≡ p = omega arith in
    let there : at ≡ p + longest = omega arith in
    let shorter : begun at st m < at = omega arith in
    let all : take (p + longest) (front ++ c ∷ s) ≡ front =
    subst (λ n. take n (front ++ c ∷ s) ≡ front) (len ∙ there) (take-append_seam front (c ∷ s)) in (
      simp length-append (omega arith),
      subst (λ n. (t : List ℕ) × ShortBlanks (front ++ c ∷ s) n t) here (blanks_to (front ++ c ∷ s) at st m (c ∷ s) (h (c ∷ s)).1),
      subst (λ l. CanBeThing l (p + longest) p) (sym all) (subst (λ n. CanBeThing front n p) there (subst (CanBeThing front at) here (thing front (ends_of at st m) h shorter))),
    )

turn_facts : (s front : List ℕ) (at : ℕ) (st : List Frame) (m : Mode) (c : ℕ) → Reached front at st m → length front ≡ at → Bound at st m → (t : Turn) →
    step longest at st m c ≡ t → TurnOrder longest (begun at st m) at t →
    ((st2 : List Frame) (m2 : Mode) → Reached (front ++ c ∷ []) (at + 1) st2 m2 → Bound (at + 1) st2 m2 → begun (at + 1) st2 m2 ≤ at + 1 →
    Facts ((front ++ c ∷ []) ++ s) (run longest (at + 1) st2 m2 s)) →
    Facts (front ++ c ∷ s) (on_turn t (λ st2 m2. run longest (at + 1) st2 m2 s))
turn_facts s front at st m c h len le (go st2 m2) e f ih =
    subst (λ l. Facts l (run longest (at + 1) st2 m2 s)) (append_assoc front (c ∷ []) s)
    (ih st2 m2 (λ x. (turns front at st m c (go st2 m2) h e x, (after front at st m c (go st2 m2) h le e x).0))
    (after front at st m c (go st2 m2) h le e []).1 f.1)
turn_facts s front at st m c h len le (stop (complete v p q)) e f ih = tt
turn_facts s front at st m c h len le (stop (blank q)) e f ih = tt
turn_facts s front at st m c h len le (stop (partial p)) e f ih = absurd f
turn_facts s front at st m c h len le (stop (fault j i k)) e f ih = subst (IsLeast (front ++ c ∷ s)) (sym f) (least s front at st m c j i k h len e)
turn_facts s front at st m c h len le (stop (too_long p)) e f ih = long_front s front at st m c p h len le f.0 f.1

-- the end of the input
end_facts : {at : ℕ} {st : List Frame} {m : Mode} (front : List ℕ) → Ends at st m → Reached front at st m → length front ≡ at → Bound at st m →
    Facts front (at_end at m st)
end_facts front top h len le = tt
end_facts front top_comment h len le = tt
end_facts {at = at} {st = st} {m = m} front (inner r e b) h len le =
    let p = begun at st m in
    let k = (h []).1 in
    let before : p < at = b (front ++ []) [] k in
    subst (Facts front) (sym e) (
      omega arith,
      omega arith,
      subst (λ l. (t : List ℕ) × ShortBlanks l p t) (append-nil front) (blanks_to (front ++ []) at st m [] k),
      subst (λ n. CanGoOn front n p) (sym len) (goes_on_at front at st m p h r),
    )

longer : (front : List ℕ) (c at : ℕ) → length front ≡ at → length (front ++ c ∷ []) ≡ at + 1
longer front c at e = simp length-append (omega arith)

facts : (s front : List ℕ) (at : ℕ) (st : List Frame) (m : Mode) → Reached front at st m → length front ≡ at → Bound at st m → begun at st m ≤ at →
    Facts (front ++ s) (run longest at st m s)
unfolding run
facts [] front at st m h len le b = subst (λ l. Facts l (at_end at m st)) (sym (append-nil front)) (end_facts front (ends_of at st m) h len le)
facts (c ∷ s) front at st m h len le b =
    turn_facts s front at st m c h len le (step longest at st m c) refl (step_order longest (begun at st m) at st m c (omega arith) b)
    (λ st2 m2 h2 le2 b2. facts s (front ++ c ∷ []) (at + 1) st2 m2 h2 (longer front c at len) le2 b2)

pub facts_of : (s : List ℕ) → Facts s (run longest 0 [] between s)
facts_of s = facts s [] 0 [] between (λ x. (refl, (64, none_open no_blank_yet))) refl (omega arith) (omega arith)
