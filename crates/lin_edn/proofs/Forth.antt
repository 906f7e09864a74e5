-- What is spelled is read, where it has at most so many bytes.
use Rattle.std.proofs.Common.{◌≡◌, ℕ, suc, ◌+◌, ◌<◌, ◌≤◌, true, false, List, [], ◌∷◌, ◌++◌, length, refl, sym, ap, ◌∙◌, arith, Some, if◌then◌else◌}
use Rattle.lin_bytes.specs.Bytes.{Kind, a_list, a_vector, a_set, a_map, Class, opener, hash, class, is_stop, is_newline, closing, Behind, behind, opens_set, opens_text, discards as discards_next, joins, names_tag, Quoted, quoted, ends, escapes, stays}
use Rattle.lin_edn.specs.Grammar.{One, one, Inside, first, joined, character, next, Tag, first_of_tag, next_of_tag, Text, Escape, opened, opened_by_hash, plain, pair, escape, Comment, starts, goes, Opens, bracket, set_bracket, Discard, discards, Blank, white_byte, comment, discarded, Blanks, no_blank, one_more, Element, run as a_run, hash_alone, whole_text, tagged_element, collection, Row, empty, blank, element, longest, ShortBlanks, no_blank_yet, one_more_short, Spells, spells, IsBlankText, nothing_more, open_comment, Frame, frame, discarding, tagging, outermost}
use Rattle.lin_edn.specs.inner.Machine.{Mode, between, in_run, after_hash, after_backslash, in_tag, in_text, in_escape, in_comment, complete, blank as blank_answer, Turn, go, stop, run, limited, ended, taken, begun, on_turn, put, deeper, begins, goes_on, quotes, apart, closed, too_long}
use Rattle.lin_edn.specs.Run.{run_value}
use Rattle.lin_edn.specs.Value.{Value, atom, tagged, made}
use Rattle.lin_edn.specs.lemmas.Rising.{blank_past, blanks_tail, comment_past, element_past, escape_past, inside_past, one_past, opens_past, row_tail, tag_past, tail_rises, text_past}
use Rattle.lin_edn.proofs.Limit.{is_above}

-- a byte that ends nothing before itself and isn't one too many
pub takes : (most at : ℕ) (st : List Frame) (m : Mode) (c : ℕ) (s : List ℕ) (t : Turn) → ended at st m c ≡ go st m →
    at < begun at st m + most → taken at st m c ≡ t →
    run most at st m (c ∷ s) ≡ on_turn t (λ st' m'. run most (at + 1) st' m' s)
unfolding run
takes most at st m c s t e lt f =
    ap (λ x. on_turn (limited most at c x) (λ st2 m2. run most (at + 1) st2 m2 s)) e
    ∙ ap (λ b. on_turn (if b then stop (too_long (begun at st m)) else taken at st m c) (λ st2 m2. run most (at + 1) st2 m2 s)) (is_above (begun at st m + most) at lt)
    ∙ ap (λ x. on_turn x (λ st2 m2. run most (at + 1) st2 m2 s)) f

-- a byte where an element may begin
pub begins_run : (most at : ℕ) (st : List Frame) (c : ℕ) (s : List ℕ) (k : Class) (t : Turn) → class c ≡ k → at < outermost at st + most → begins k at st c ≡ t →
    run most at st between (c ∷ s) ≡ on_turn t (λ st' m'. run most (at + 1) st' m' s)
begins_run most at st c s k t h lt f = takes most at st between c s t refl lt (ap (λ x. begins x at st c) h ∙ f)

pub one_run : (most : ℕ) {p q : ℕ} {s t w : List ℕ} {k : Class} → One k p s w q t → (st : List Frame) (m : Mode) → p < outermost p st + most →
    ((c : ℕ) → w ≡ c ∷ [] → begins k p st c ≡ go st m) → run most p st between s ≡ run most q st m t
one_run most (one {p = p} {b = b} {s = s} {k = k} h) st m lt f = begins_run most p st b s k (go st m) h lt (f b refl)

-- an element that ends before a byte
put_then : (most : ℕ) (v : Value) (p at c : ℕ) (st : List Frame) (s : List ℕ) →
    on_turn (limited most at c (put v p st at)) (λ st' m'. run most (at + 1) st' m' s) ≡ on_turn (put v p st at) (λ st' m'. run most at st' m' (c ∷ s))
unfolding run
put_then most v p at c [] s = refl
put_then most v p at c (frame k o vs ∷ st) s = refl
put_then most v p at c (discarding o ∷ st) s = refl
put_then most v p at c (tagging o i w ∷ st) s = put_then most (tagged i w v) o at c st s

ends_run : (most at : ℕ) (st : List Frame) (m : Mode) (v : Value) (p c : ℕ) (s : List ℕ) → ended at st m c ≡ put v p st at →
    run most at st m (c ∷ s) ≡ on_turn (put v p st at) (λ st' m'. run most at st' m' (c ∷ s))
unfolding run
ends_run most at st m v p c s e =
    ap (λ x. on_turn (limited most at c x) (λ st2 m2. run most (at + 1) st2 m2 s)) e ∙ put_then most v p at c st s

tag_ends : (most at : ℕ) (st : List Frame) (p : ℕ) (w : List ℕ) (c : ℕ) (s : List ℕ) → is_stop c ≡ true →
    run most at st (in_tag p w) (c ∷ s) ≡ run most at (tagging p (p + 1) w ∷ st) between (c ∷ s)
unfolding run
tag_ends most at st p w c s h = rw h refl

-- one byte of what is open beside the levels
pub run_goes : (most at : ℕ) (st : List Frame) (p : ℕ) (w : List ℕ) (c : ℕ) (s : List ℕ) → is_stop c ≡ false → at < outermost p st + most →
    run most at st (in_run p w) (c ∷ s) ≡ run most (at + 1) st (in_run p (w ++ c ∷ [])) s
run_goes most at st p w c s h lt = takes most at st (in_run p w) c s (go st (in_run p (w ++ c ∷ []))) (rw h refl) lt refl

pub tag_goes : (most at : ℕ) (st : List Frame) (p : ℕ) (w : List ℕ) (c : ℕ) (s : List ℕ) → is_stop c ≡ false → at < outermost p st + most →
    run most at st (in_tag p w) (c ∷ s) ≡ run most (at + 1) st (in_tag p (w ++ c ∷ [])) s
tag_goes most at st p w c s h lt = takes most at st (in_tag p w) c s (go st (in_tag p (w ++ c ∷ []))) (rw h refl) lt refl

pub hash_goes : (most at : ℕ) (st : List Frame) (p : ℕ) (w : List ℕ) (c : ℕ) (s : List ℕ) (b : Behind) (t : Turn) → behind c ≡ b →
    apart b at st p w ≡ go st (after_hash p w) → goes_on b at st p w c ≡ t → at < outermost p st + most →
    run most at st (after_hash p w) (c ∷ s) ≡ on_turn t (λ st' m'. run most (at + 1) st' m' s)
hash_goes most at st p w c s b t h e f lt =
    takes most at st (after_hash p w) c s t (ap (λ x. apart x at st p w) h ∙ e) lt (ap (λ x. goes_on x at st p w c) h ∙ f)

slash_goes : (most at : ℕ) (st : List Frame) (p : ℕ) (w : List ℕ) (c : ℕ) (s : List ℕ) → at < outermost p st + most →
    run most at st (after_backslash p w) (c ∷ s) ≡ run most (at + 1) st (in_run p (w ++ c ∷ [])) s
slash_goes most at st p w c s lt = takes most at st (after_backslash p w) c s (go st (in_run p (w ++ c ∷ []))) refl lt refl

pub text_goes : (most at : ℕ) (st : List Frame) (p : ℕ) (w : List ℕ) (c : ℕ) (s : List ℕ) (k : Quoted) → quoted c ≡ k → at < outermost p st + most →
    run most at st (in_text p w) (c ∷ s) ≡ on_turn (quotes k at st p w c) (λ st' m'. run most (at + 1) st' m' s)
text_goes most at st p w c s k h lt = takes most at st (in_text p w) c s (quotes k at st p w c) refl lt (ap (λ x. quotes x at st p w c) h)

escape_goes : (most at : ℕ) (st : List Frame) (p : ℕ) (w : List ℕ) (c : ℕ) (s : List ℕ) → at < outermost p st + most →
    run most at st (in_escape p w) (c ∷ s) ≡ run most (at + 1) st (in_text p (w ++ c ∷ [])) s
escape_goes most at st p w c s lt = takes most at st (in_escape p w) c s (go st (in_text p (w ++ c ∷ []))) refl lt refl

pub comment_goes : (most at : ℕ) (st : List Frame) (p : ℕ) (c : ℕ) (s : List ℕ) → is_newline c ≡ false → at < outermost p st + most →
    run most at st (in_comment p) (c ∷ s) ≡ run most (at + 1) st (in_comment p) s
comment_goes most at st p c s h lt = takes most at st (in_comment p) c s (go st (in_comment p)) refl lt (rw h refl)

comment_ends : (most at : ℕ) (st : List Frame) (p : ℕ) (c : ℕ) (s : List ℕ) → is_newline c ≡ true → at < outermost p st + most →
    run most at st (in_comment p) (c ∷ s) ≡ run most (at + 1) st between s
comment_ends most at st p c s h lt = takes most at st (in_comment p) c s (go st between) refl lt (rw h refl)

-- the bytes of what is open beside the levels
pub hash_run : (most : ℕ) {p q : ℕ} {s t w : List ℕ} → One hash p s w q t → (st : List Frame) → p < outermost p st + most →
    run most p st between s ≡ run most q st (after_hash p w) t
hash_run most {p = p} {w = w} i st lt = one_run most i st (after_hash p w) lt (λ c e. ap (λ x. go st (after_hash p x)) (sym e))

pub inside_run : (most : ℕ) {p q : ℕ} {s t w : List ℕ} → Inside p s w q t → (st : List Frame) → q ≤ outermost p st + most →
    run most p st between s ≡ run most q st (in_run p w) t
inside_run most (first {p = p} {q = q} {w = w} i) st le =
    let a : p < q = (one_past i).0 in one_run most i st (in_run p w) (omega arith) (λ c e. ap (λ x. go st (in_run p x)) (sym e))
inside_run most (joined {p = p} {q = q} {b = b} {t = t} {w = w} i h) st le =
    let a : p < q = (one_past i).0 in
    hash_run most i st (omega arith) ∙ hash_goes most q st p w b t joins _ h refl refl (omega arith)
inside_run most (character {p = p} {q = q} {b = b} {t = t} {w = w} i) st le =
    let a : p < q = (one_past i).0 in
    one_run most i st (after_backslash p w) (omega arith) (λ c e. ap (λ x. go st (after_backslash p x)) (sym e))
    ∙ slash_goes most q st p w b t (omega arith)
inside_run most (next {p = p} {q = q} {b = b} {t = t} {w = w} i h) st le =
    let a : p < q = (inside_past i).0 in inside_run most i st (omega arith) ∙ run_goes most q st p w b t h (omega arith)

mutual
  pub text_run : (most : ℕ) {p q : ℕ} {s t w : List ℕ} → Text p s w q t → (st : List Frame) → q ≤ outermost p st + most →
      run most p st between s ≡ run most q st (in_text p w) t
  text_run most (opened {p = p} {q = q} {w = w} i) st le =
      let a : p < q = (one_past i).0 in one_run most i st (in_text p w) (omega arith) (λ c e. ap (λ x. go st (in_text p x)) (sym e))
  text_run most (opened_by_hash {p = p} {q = q} {b = b} {t = t} {w = w} i h) st le =
      let a : p < q = (one_past i).0 in
      hash_run most i st (omega arith) ∙ hash_goes most q st p w b t opens_text _ h refl refl (omega arith)
  text_run most (plain {p = p} {q = q} {b = b} {t = t} {w = w} i h) st le =
      let a : p < q = (text_past i).0 in text_run most i st (omega arith) ∙ text_goes most q st p w b t stays h (omega arith)
  text_run most (pair {p = p} {q = q} {b = b} {t = t} {w = w} i) st le =
      let a : p < q = (escape_past i).0 in escape_run most i st (omega arith) ∙ escape_goes most q st p w b t (omega arith)

  pub escape_run : (most : ℕ) {p q : ℕ} {s t w : List ℕ} → Escape p s w q t → (st : List Frame) → q ≤ outermost p st + most →
      run most p st between s ≡ run most q st (in_escape p w) t
  escape_run most (escape {p = p} {q = q} {b = b} {t = t} {w = w} i h) st le =
      let a : p < q = (text_past i).0 in text_run most i st (omega arith) ∙ text_goes most q st p w b t escapes h (omega arith)

pub comment_run : (most : ℕ) {p q : ℕ} {s t : List ℕ} → Comment p s q t → (st : List Frame) → q ≤ outermost p st + most →
    run most p st between s ≡ run most q st (in_comment p) t
comment_run most (starts {p = p} {q = q} i) st le = let a : p < q = (one_past i).0 in one_run most i st (in_comment p) (omega arith) (λ c e. refl)
comment_run most (goes {p = p} {q = q} {b = b} {t = t} i h) st le =
    let a : p < q = (comment_past i).0 in comment_run most i st (omega arith) ∙ comment_goes most q st p b t h (omega arith)

-- levels
enters : (at p : ℕ) (st : List Frame) (t : Turn) → length st < 64 → deeper at p st t ≡ t
enters at p st t h = rw (is_above 64 (length st) h) refl

pub tag_run : (most : ℕ) {p q : ℕ} {s t w : List ℕ} → Tag p s w q t → (st : List Frame) → length st < 64 → q ≤ outermost p st + most →
    run most p st between s ≡ run most q st (in_tag p w) t
tag_run most (first_of_tag {p = p} {q = q} {b = b} {t = t} {w = w} i h) st lt le =
    let a : p < q = (one_past i).0 in
    hash_run most i st (omega arith) ∙ hash_goes most q st p w b t names_tag _ h refl (enters q p st (go st (in_tag p (b ∷ []))) lt) (omega arith)
tag_run most (next_of_tag {p = p} {q = q} {b = b} {t = t} {w = w} i h) st lt le =
    let a : p < q = (tag_past i).0 in tag_run most i st lt (omega arith) ∙ tag_goes most q st p w b t h (omega arith)

pub opens_run : (most : ℕ) {p q : ℕ} {s t : List ℕ} {k : Kind} → Opens k p s q t → (st : List Frame) → length st < 64 → q ≤ outermost p st + most →
    run most p st between s ≡ run most q (frame k p [] ∷ st) between t
opens_run most (bracket {k = k} (one {p = p} {b = b} {s = s} h)) st lt le =
    begins_run most p st b s (opener k) _ h (omega arith) (enters p p st (go (frame k p [] ∷ st) between) lt)
opens_run most (set_bracket {p = p} {q = q} {b = b} {t = t} {w = w} i h) st lt le =
    let a : p < q = (one_past i).0 in
    hash_run most i st (omega arith) ∙ hash_goes most q st p w b t opens_set _ h refl (enters q p st (go (frame a_set p [] ∷ st) between) lt) (omega arith)

close_run : (most : ℕ) (k : Kind) (o : ℕ) (vs : List Value) (st : List Frame) (at : ℕ) (t : List ℕ) (v : Value) → made k vs ≡ Some v →
    at < outermost o st + most →
    run most at (frame k o vs ∷ st) between (closing k ∷ t) ≡ on_turn (put v o st (at + 1)) (λ st' m'. run most (at + 1) st' m' t)
close_run most a_list o vs st at t v h lt = takes most at (frame a_list o vs ∷ st) between 41 t _ refl lt (ap (λ m. closed m o st at) h)
close_run most a_vector o vs st at t v h lt = takes most at (frame a_vector o vs ∷ st) between 93 t _ refl lt (ap (λ m. closed m o st at) h)
close_run most a_set o vs st at t v h lt = takes most at (frame a_set o vs ∷ st) between 125 t _ refl lt (ap (λ m. closed m o st at) h)
close_run most a_map o vs st at t v h lt = takes most at (frame a_map o vs ∷ st) between 125 t _ refl lt (ap (λ m. closed m o st at) h)

-- what opens a discard, and a tag up to its element
pub discard_opens : (most : ℕ) {p q b : ℕ} {s t w : List ℕ} → One hash p s w q (b ∷ t) → behind b ≡ discards_next → (st : List Frame) → length st < 64 →
    q + 1 ≤ outermost p st + most → run most p st between s ≡ run most (q + 1) (discarding p ∷ st) between t
discard_opens most {p = p} {q = q} {b = b} {t = t} {w = w} h d st lt le =
    let a : p < q = (one_past h).0 in
    hash_run most h st (omega arith)
    ∙ hash_goes most q st p w b t discards_next _ d refl (enters q p st (go (discarding p ∷ st) between) lt) (omega arith)

pub tag_opens : (most : ℕ) {p q c : ℕ} {s t w : List ℕ} → Tag p s w q (c ∷ t) → is_stop c ≡ true → (st : List Frame) → length st < 64 → q ≤ outermost p st + most →
    run most p st between s ≡ run most q (tagging p (p + 1) w ∷ st) between (c ∷ t)
tag_opens most {p = p} {q = q} {c = c} {t = t} {w = w} tg h st lt le = tag_run most tg st lt le ∙ tag_ends most q st p w c t h

mutual
  pub discard_run : (most : ℕ) {n p q : ℕ} {s t : List ℕ} → Discard n p s q t → (st : List Frame) → length st + n ≤ 64 → q ≤ outermost p st + most →
      run most p st between s ≡ run most q st between t
  discard_run most (discards {n = n} {p = p} {q = q} {r = r} {o = o} {b = b} {t = t} {w = w} h d bs e) st fits le =
      let a1 : p < q = (one_past h).0 in let a2 : q + 1 ≤ r = tail_rises (blanks_tail bs) in let a3 : r < o = (element_past e).0 in
      discard_opens most h d st (omega arith) (omega arith)
      ∙ blanks_run most bs (discarding p) st (omega arith) (omega arith) ∙ element_run most e (discarding p ∷ st) (omega arith) le

  pub blank_run : (most : ℕ) {n p q : ℕ} {s t : List ℕ} → Blank n p s q t → (st : List Frame) → length st + n ≤ 64 → q ≤ outermost p st + most →
      run most p st between s ≡ run most q st between t
  blank_run most (white_byte {p = p} {q = q} i) st fits le = let a : p < q = (one_past i).0 in one_run most i st between (omega arith) (λ c e. refl)
  blank_run most (comment {p = p} {q = q} {c = c} {t = t} i h) st fits le =
      comment_run most i st (omega arith) ∙ comment_ends most q st p c t h (omega arith)
  blank_run most (discarded d) st fits le = discard_run most d st fits le

  pub blanks_run : (most : ℕ) {n p q : ℕ} {s t : List ℕ} → Blanks n p s q t → (f : Frame) (st : List Frame) → length (f ∷ st) + n ≤ 64 → q ≤ outermost p (f ∷ st) + most →
      run most p (f ∷ st) between s ≡ run most q (f ∷ st) between t
  blanks_run most no_blank f st fits le = refl
  blanks_run most (one_more {q = q} {r = r} bs b) f st fits le =
      let a : q < r = (blank_past b).0 in
      blanks_run most bs f st fits (omega arith) ∙ blank_run most b (f ∷ st) fits le

  pub element_run : (most : ℕ) {n p q : ℕ} {s t : List ℕ} {v : Value} → Element n p s v q t → (st : List Frame) → length st + n ≤ 64 → q ≤ outermost p st + most →
      run most p st between s ≡ on_turn (put v p st q) (λ st' m'. run most q st' m' t)
  element_run most (a_run {p = p} {q = q} {c = c} {t = t} {w = w} i h) st fits le =
      inside_run most i st le ∙ ends_run most q st (in_run p w) (run_value p w) p c t (rw h refl)
  element_run most (hash_alone {p = p} {q = q} {c = c} {t = t} {w = w} i h) st fits le =
      let a : p < q = (one_past i).0 in
      hash_run most i st (omega arith) ∙ ends_run most q st (after_hash p w) (atom p w) p c t (ap (λ x. apart x q st p w) h)
  element_run most (whole_text {p = p} {q = q} {c = c} {t = t} {w = w} i h) st fits le =
      text_run most i st (omega arith) ∙ text_goes most q st p w c t ends h (omega arith)
  element_run most (tagged_element {n = n} {p = p} {q = q} {r = r} {o = o} {c = c} {t = t} {w = w} tg h bs e) st fits le =
      let a1 : p < q = (tag_past tg).0 in let a2 : q ≤ r = tail_rises (blanks_tail bs) in let a3 : r < o = (element_past e).0 in
      tag_opens most tg h st (omega arith) (omega arith)
      ∙ blanks_run most bs (tagging p (p + 1) w) st (omega arith) (omega arith) ∙ element_run most e (tagging p (p + 1) w ∷ st) (omega arith) le
  element_run most (collection {n = n} {p = p} {q = q} {r = r} {t = t} {u = u} {vs = vs} {v = v} {k = k} i row m) st fits le =
      let a1 : p < q = (opens_past i).0 in let a2 : q ≤ r = tail_rises (row_tail row) in
      opens_run most i st (omega arith) (omega arith)
      ∙ row_run most row k p st (omega arith) (omega arith)
      ∙ close_run most k p vs st r u v m (omega arith)

  pub row_run : (most : ℕ) {n p q : ℕ} {s t : List ℕ} {vs : List Value} → Row n p s vs q t → (k : Kind) (o : ℕ) (st : List Frame) →
      suc (length st) + n ≤ 64 → q ≤ outermost o st + most →
      run most p (frame k o [] ∷ st) between s ≡ run most q (frame k o vs ∷ st) between t
  row_run most empty k o st fits le = refl
  row_run most (blank {q = q} {r = r} {vs = vs} row b) k o st fits le =
      let a : q < r = (blank_past b).0 in
      row_run most row k o st fits (omega arith) ∙ blank_run most b (frame k o vs ∷ st) fits le
  row_run most (element {q = q} {r = r} {vs = vs} row e) k o st fits le =
      let a : q < r = (element_past e).0 in
      row_run most row k o st fits (omega arith) ∙ element_run most e (frame k o vs ∷ st) fits le

-- at the top
pub short_run : {q : ℕ} {s t : List ℕ} → ShortBlanks s q t → run longest 0 [] between s ≡ run longest q [] between t
short_run no_blank_yet = refl
short_run (one_more_short bs b le) = short_run bs ∙ blank_run longest b [] (omega arith) le

-- with a limit that is past the end
pub long_run : (most : ℕ) {q : ℕ} {s t : List ℕ} → Blanks 64 0 s q t → q ≤ most → run most 0 [] between s ≡ run most q [] between t
long_run most no_blank le = refl
long_run most (one_more {q = q} {r = r} bs b) le =
    let a : q < r = (blank_past b).0 in
    long_run most bs (omega arith) ∙ blank_run most b [] (omega arith) (omega arith)

pub spells_run : {p q : ℕ} {s : List ℕ} {v : Value} → Spells s v p q → run longest 0 [] between s ≡ complete v p q
spells_run (spells bs e le) = short_run bs ∙ element_run longest e [] (omega arith) le

pub blank_input : {q : ℕ} {s : List ℕ} → IsBlankText s q → run longest 0 [] between s ≡ blank_answer q
unfolding run
blank_input (nothing_more bs) = short_run bs
blank_input (open_comment bs i le) = short_run bs ∙ comment_run longest i [] le
