-- What is read is spelled, and a fault has its cause.
use Rattle.std.proofs.Common.{◌≡◌, ℕ, suc, zero, ◌+◌, ◌<◌, ◌≤◌, Bool, true, false, List, [], ◌∷◌, length, refl, sym, ap, arith, Option, Some, None, nat_le, ◌==◌, subst, if◌then◌else◌}
use Rattle.lin_bytes.specs.Bytes.{Kind, a_set, Class, white, semicolon, opener, closer, quote, backslash, hash, inside, class, is_stop, is_newline, closing, Behind, behind, opens_set, opens_text, discards as discards_next, joins, stands_apart, names_tag, Quoted, quoted, ends, escapes, stays}
use Rattle.lin_edn.specs.Grammar.{One, one, Inside, first, joined, character, next, Tag, first_of_tag, next_of_tag, Text, Escape, opened, opened_by_hash, plain, pair, escape, Comment, starts, goes, Opens, bracket, set_bracket, discards, Blank, white_byte, comment, discarded, no_blank, Element, run as a_run, hash_alone, whole_text, tagged_element, collection, Row, empty, blank, element, one_more, longest, no_blank_yet, one_more_short, Spells, spells, IsBlankText, nothing_more, open_comment, IsInReach, Frame, frame, discarding, tagging, Open, none_open, within, waits, awaits, Faulty, unbalanced, odd_map, too_deep, hash_too_deep, deepens, fits, place_of, outermost}
use Rattle.lin_edn.specs.inner.Machine.{Mode, between, in_run, after_hash, after_backslash, in_tag, in_text, in_escape, in_comment, Answer, complete, blank as blank_answer, partial, fault, too_long, Turn, go, stop, run, step, limited, ended, taken, begun, on_turn, put, deeper, begins, goes_on, quotes, apart, close, closed, at_end}
use Rattle.lin_edn.specs.Run.{run_value}
use Rattle.lin_edn.specs.Value.{Value, atom, tagged, made}
use Rattle.lin_edn.specs.declared.EdnCause.TheVariants.{Unbalanced, OddMap, TooDeep}
use Rattle.lin_edn.specs.lemmas.Rising.{blanks_tail, one_past, opens_past, row_tail, tag_past, tail_rises}
use Rattle.lin_edn.proofs.Limit.{is_past, is_under, same_number}

-- what an answer says of the input
abbrev pub What : List ℕ → Answer → Type 0
What s (complete v p q) = Spells s v p q
What s (blank_answer q) = IsBlankText s q
What s (partial p) = Unit {0}
What s (fault j p k) = Faulty s j p k × IsInReach s j
What s (too_long p) = Unit {0}

-- what a state says of the bytes up to a place, where O tells which levels they leave open
abbrev pub StandsOn : (ℕ → List Frame → ℕ → List ℕ → Type 0) → ℕ → List Frame → Mode → List ℕ → Type 0
StandsOn O at st between s = (n : ℕ) × O n st at s
StandsOn O at st (in_run p w) s = (n : ℕ) × (r : List ℕ) × O n st p r × Inside p r w at s
StandsOn O at st (after_hash p w) s = (n : ℕ) × (r : List ℕ) × O n st p r × One hash p r w at s
StandsOn O at st (after_backslash p w) s = (n : ℕ) × (r : List ℕ) × O n st p r × One backslash p r w at s
StandsOn O at st (in_tag p w) s = (n : ℕ) × (r : List ℕ) × O (suc n) st p r × Tag p r w at s
StandsOn O at st (in_text p w) s = (n : ℕ) × (r : List ℕ) × O n st p r × Text p r w at s
StandsOn O at st (in_escape p w) s = (n : ℕ) × (r : List ℕ) × O n st p r × Escape p r w at s
StandsOn O at st (in_comment p) s = (n : ℕ) × (r : List ℕ) × O n st p r × Comment p r at s

abbrev pub Stands : List ℕ → ℕ → List Frame → Mode → List ℕ → Type 0
Stands s0 at st m s = StandsOn (Open s0) at st m s

-- what stands at the top isn't too long before a place
abbrev pub Bound : ℕ → List Frame → Mode → Type 0
Bound at st m = at ≤ begun at st m + longest

abbrev pub AfterOn : (Answer → Type 0) → (ℕ → List Frame → ℕ → List ℕ → Type 0) → ℕ → List ℕ → Turn → Type 0
AfterOn Says O at s (go st m) = StandsOn O at st m s × Bound at st m
AfterOn Says O at s (stop a) = Says a

abbrev pub AfterTurn : List ℕ → ℕ → List ℕ → Turn → Type 0
AfterTurn s0 at s t = AfterOn (What s0) (Open s0) at s t

-- the next byte ends nothing before itself
abbrev Fresh : Mode → ℕ → Type 0
Fresh between c = Unit {0}
Fresh (in_run p w) c = is_stop c ≡ false
Fresh (after_hash p w) c = behind c ≡ stands_apart → ⊥
Fresh (after_backslash p w) c = Unit {0}
Fresh (in_tag p w) c = is_stop c ≡ false
Fresh (in_text p w) c = Unit {0}
Fresh (in_escape p w) c = Unit {0}
Fresh (in_comment p) c = Unit {0}

abbrev FreshTurn : ℕ → Turn → Type 0
FreshTurn c (go st m) = Fresh m c
FreshTurn c (stop a) = Unit {0}

put_fresh : (c : ℕ) (v : Value) (p : ℕ) (st : List Frame) (q : ℕ) → FreshTurn c (put v p st q)
put_fresh c v p [] q = tt
put_fresh c v p (frame k o vs ∷ st) q = tt
put_fresh c v p (discarding o ∷ st) q = tt
put_fresh c v p (tagging o i w ∷ st) q = put_fresh c (tagged i w v) o st q

run_fresh : (at c p : ℕ) (w : List ℕ) (st : List Frame) (b : Bool) → is_stop c ≡ b →
    FreshTurn c (if b then put (run_value p w) p st at else go st (in_run p w))
run_fresh at c p w st true h = put_fresh c (run_value p w) p st at
run_fresh at c p w st false h = h

apart_fresh : (at c p : ℕ) (w : List ℕ) (st : List Frame) (b : Behind) → behind c ≡ b → FreshTurn c (apart b at st p w)
apart_fresh at c p w st opens_set h = λ e. cc
apart_fresh at c p w st opens_text h = λ e. cc
apart_fresh at c p w st discards_next h = λ e. cc
apart_fresh at c p w st joins h = λ e. cc
apart_fresh at c p w st stands_apart h = put_fresh c (atom p w) p st at
apart_fresh at c p w st names_tag h = λ e. cc

tag_fresh : (c p : ℕ) (w : List ℕ) (st : List Frame) (b : Bool) → is_stop c ≡ b →
    FreshTurn c (if b then go (tagging p (p + 1) w ∷ st) between else go st (in_tag p w))
tag_fresh c p w st true h = tt
tag_fresh c p w st false h = h

ended_fresh : (at c : ℕ) (st : List Frame) (m : Mode) → FreshTurn c (ended at st m c)
ended_fresh at c st between = tt
ended_fresh at c st (in_run p w) = run_fresh at c p w st (is_stop c) refl
ended_fresh at c st (after_hash p w) = apart_fresh at c p w st (behind c) refl
ended_fresh at c st (after_backslash p w) = tt
ended_fresh at c st (in_tag p w) = tag_fresh c p w st (is_stop c) refl
ended_fresh at c st (in_text p w) = tt
ended_fresh at c st (in_escape p w) = tt
ended_fresh at c st (in_comment p) = tt

-- the next byte begins a thing at the top, or belongs to that which is open
pub bound_here : (p q : ℕ) (st : List Frame) → q ≤ outermost p st + longest → q ≤ outermost q st + longest
bound_here p q [] le = omega arith
bound_here p q (f ∷ st) le = le

next_bound : (at p : ℕ) (st : List Frame) → at < outermost p st + longest → at + 1 ≤ outermost p st + longest
next_bound at p st lt = omega arith

-- `O` tells which levels the bytes up to a place leave open, `Says` what an answer says, and so they do with a blank, an element
-- or an opening more
pub record Keeps (Says : Answer → Type 0) (O : ℕ → List Frame → ℕ → List ℕ → Type 0) : Type 0 where
  pub levels : {n q : ℕ} {t : List ℕ} {st : List Frame} → O n st q t → n + length st ≡ 64
  pub skip : {n q r : ℕ} {t u : List ℕ} {st : List Frame} → O n st q t → Blank n q t r u → r ≤ outermost q st + longest → O n st r u
  pub puts : {n p q : ℕ} {t u : List ℕ} {st : List Frame} {v : Value} → O n st p t → Element n p t v q u → q ≤ outermost p st + longest → AfterOn Says O q u (put v p st q)
  pub within : {n p q : ℕ} {t u : List ℕ} {st : List Frame} {k : Kind} → O (suc n) st p t → Opens k p t q u → O n (frame k p [] ∷ st) q u
  pub waits : {n p q b : ℕ} {t u w : List ℕ} {st : List Frame} → O (suc n) st p t → One hash p t w q (b ∷ u) → behind b ≡ discards_next → O n (discarding p ∷ st) (q + 1) u
  pub awaits : {n p q c : ℕ} {t u w : List ℕ} {st : List Frame} → O (suc n) st p t → Tag p t w q (c ∷ u) → is_stop c ≡ true → O n (tagging p (p + 1) w ∷ st) q (c ∷ u)
  pub closed : {n p q : ℕ} {s u : List ℕ} {st : List Frame} {vs : List Value} {k : Kind} {v : Value} → O n (frame k p vs ∷ st) q u → u ≡ closing k ∷ s →
      made k vs ≡ Some v → q < outermost p st + longest → AfterOn Says O (q + 1) s (put v p st (q + 1))
  pub unbalanced : {n p c : ℕ} {t : List ℕ} {st : List Frame} → O n st p (c ∷ t) → class c ≡ closer → fits st c ≡ false → p < outermost p st + longest →
      Says (fault p p Unbalanced)
  pub odd_map : {n p o : ℕ} {t : List ℕ} {st : List Frame} {vs : List Value} {k : Kind} → O n (frame k o vs ∷ st) p (closing k ∷ t) → made k vs ≡ None →
      p < outermost o st + longest → Says (fault p p OddMap)
  pub too_deep : {p c : ℕ} {t : List ℕ} {st : List Frame} {k : Kind} → O 0 st p (c ∷ t) → class c ≡ opener k → p < outermost p st + longest → Says (fault p p TooDeep)
  pub hash_too_deep : {p q b : ℕ} {t u w : List ℕ} {st : List Frame} → O 0 st p t → One hash p t w q (b ∷ u) → deepens (behind b) ≡ true →
      q < outermost p st + longest → Says (fault q p TooDeep)
  pub blank : {n at : ℕ} → O n [] at [] → Says (blank_answer at)
  pub comment : {n at p : ℕ} {t : List ℕ} → O n [] p t → Comment p t at [] → at ≤ p + longest → Says (blank_answer p)
  pub partial : (p : ℕ) → Says (partial p)
  pub too_long : (p : ℕ) → Says (too_long p)

module _ (Says : Answer → Type 0) (O : ℕ → List Frame → ℕ → List ℕ → Type 0) (keep : Keeps Says O) where
  -- one level more
  level_if : (n at p : ℕ) (r s : List ℕ) (st : List Frame) (t : Turn) → O n st p r →
      ((m : ℕ) → O (suc m) st p r → AfterOn Says O (at + 1) s t) → (O 0 st p r → Says (fault at p TooDeep)) →
      (b : Bool) → nat_le 64 (length st) ≡ b → AfterOn Says O (at + 1) s (if b then stop (fault at p TooDeep) else t)
  level_if n at p r s st t o f g true e =
      let le : 64 ≤ length st = is_past 64 (length st) e in
      let all : n + length st ≡ 64 = keep.levels o in
      let z : n ≡ 0 = omega arith in
      g (subst (λ x. O x st p r) z o)
  level_if zero at p r s st t o f g false e =
      let lt : length st < 64 = is_under 64 (length st) e in
      let all : 0 + length st ≡ 64 = keep.levels o in absurd (omega arith)
  level_if (suc m) at p r s st t o f g false e = f m o

  level_case : (n at p : ℕ) (r s : List ℕ) (st : List Frame) (t : Turn) → O n st p r →
      ((m : ℕ) → O (suc m) st p r → AfterOn Says O (at + 1) s t) → (O 0 st p r → Says (fault at p TooDeep)) →
      AfterOn Says O (at + 1) s (deeper at p st t)
  level_case n at p r s st t o f g = level_if n at p r s st t o f g (nat_le 64 (length st)) refl

  -- closing
  made_case : (n at p : ℕ) (s : List ℕ) (st : List Frame) (vs : List Value) (k : Kind) → O n (frame k p vs ∷ st) at (closing k ∷ s) →
      at < outermost p st + longest → (m : Option Value) → made k vs ≡ m → AfterOn Says O (at + 1) s (closed m p st at)
  made_case n at p s st vs k o lt None e = keep.odd_map o e lt
  made_case n at p s st vs k o lt (Some v) e = keep.closed o refl e lt

  fits_case : (n at p c : ℕ) (s : List ℕ) (st : List Frame) (vs : List Value) (k : Kind) → O n (frame k p vs ∷ st) at (c ∷ s) →
      at < outermost p st + longest → class c ≡ closer → (b : Bool) → (closing k == c) ≡ b →
      AfterOn Says O (at + 1) s (if b then closed (made k vs) p st at else stop (fault at at Unbalanced))
  fits_case n at p c s st vs k o lt h true e =
      made_case n at p s st vs k (subst (λ x. O n (frame k p vs ∷ st) at (x ∷ s)) (sym (same_number (closing k) c e)) o) lt (made k vs) refl
  fits_case n at p c s st vs k o lt h false e = keep.unbalanced o h e lt

  close_holds : (n at c : ℕ) (s : List ℕ) (st : List Frame) → O n st at (c ∷ s) → at < outermost at st + longest → class c ≡ closer →
      AfterOn Says O (at + 1) s (close at st c)
  close_holds n at c s [] o lt h = keep.unbalanced o h refl lt
  close_holds n at c s (frame k p vs ∷ st) o lt h = fits_case n at p c s st vs k o lt h (closing k == c) refl
  close_holds n at c s (discarding p ∷ st) o lt h = keep.unbalanced o h refl lt
  close_holds n at c s (tagging p i w ∷ st) o lt h = keep.unbalanced o h refl lt

  -- a byte where an element may begin
  begins_holds : (n at c : ℕ) (s : List ℕ) (st : List Frame) → O n st at (c ∷ s) → at < outermost at st + longest → (k : Class) → class c ≡ k →
      AfterOn Says O (at + 1) s (begins k at st c)
  begins_holds n at c s st o lt white h =
      let le = next_bound at at st lt in ((n, keep.skip o (white_byte (one h)) le), bound_here at (at + 1) st le)
  begins_holds n at c s st o lt semicolon h = ((n, c ∷ s, o, starts (one h)), next_bound at at st lt)
  begins_holds n at c s st o lt (opener k) h =
      level_case n at at (c ∷ s) s st (go (frame k at [] ∷ st) between) o (λ m o2. ((m, keep.within o2 (bracket (one h))), next_bound at at st lt))
      (λ o2. keep.too_deep o2 h lt)
  begins_holds n at c s st o lt closer h = close_holds n at c s st o lt h
  begins_holds n at c s st o lt quote h = ((n, c ∷ s, o, opened (one h)), next_bound at at st lt)
  begins_holds n at c s st o lt backslash h = ((n, c ∷ s, o, one h), next_bound at at st lt)
  begins_holds n at c s st o lt hash h = ((n, c ∷ s, o, one h), next_bound at at st lt)
  begins_holds n at c s st o lt inside h = ((n, c ∷ s, o, first (one h)), next_bound at at st lt)

  -- a byte behind a `#`
  goes_on_holds : (n at p c : ℕ) (r s w : List ℕ) (st : List Frame) → O n st p r → One hash p r w at (c ∷ s) → at < outermost p st + longest →
      (behind c ≡ stands_apart → ⊥) → (b : Behind) → behind c ≡ b → AfterOn Says O (at + 1) s (goes_on b at st p w c)
  goes_on_holds n at p c r s w st o i lt fresh opens_set h =
      level_case n at p r s st (go (frame a_set p [] ∷ st) between) o (λ m o2. ((m, keep.within o2 (set_bracket i h)), next_bound at p st lt))
      (λ o2. keep.hash_too_deep o2 i (ap deepens h) lt)
  goes_on_holds n at p c r s w st o i lt fresh opens_text h = ((n, r, o, opened_by_hash i h), next_bound at p st lt)
  goes_on_holds n at p c r s w st o i lt fresh discards_next h =
      level_case n at p r s st (go (discarding p ∷ st) between) o (λ m o2. ((m, keep.waits o2 i h), next_bound at p st lt))
      (λ o2. keep.hash_too_deep o2 i (ap deepens h) lt)
  goes_on_holds n at p c r s w st o i lt fresh joins h = ((n, r, o, joined i h), next_bound at p st lt)
  goes_on_holds n at p c r s w st o i lt fresh stands_apart h = absurd (fresh h)
  goes_on_holds n at p c r s w st o i lt fresh names_tag h =
      level_case n at p r s st (go st (in_tag p (c ∷ []))) o (λ m o2. ((m, r, o2, first_of_tag i h), next_bound at p st lt))
      (λ o2. keep.hash_too_deep o2 i (ap deepens h) lt)

  -- a byte of a text, of a comment
  quotes_holds : (n at p c : ℕ) (r s w : List ℕ) (st : List Frame) → O n st p r → Text p r w at (c ∷ s) → at < outermost p st + longest →
      (k : Quoted) → quoted c ≡ k → AfterOn Says O (at + 1) s (quotes k at st p w c)
  quotes_holds n at p c r s w st o i lt ends h = keep.puts o (whole_text i h) (next_bound at p st lt)
  quotes_holds n at p c r s w st o i lt escapes h = ((n, r, o, escape i h), next_bound at p st lt)
  quotes_holds n at p c r s w st o i lt stays h = ((n, r, o, plain i h), next_bound at p st lt)

  newline_case : (n at p c : ℕ) (r s : List ℕ) (st : List Frame) → O n st p r → Comment p r at (c ∷ s) → at < outermost p st + longest →
      (b : Bool) → is_newline c ≡ b → AfterOn Says O (at + 1) s (if b then go st between else go st (in_comment p))
  newline_case n at p c r s st o i lt true h =
      let le = next_bound at p st lt in ((n, keep.skip o (comment i h) le), bound_here p (at + 1) st le)
  newline_case n at p c r s st o i lt false h = ((n, r, o, goes i h), next_bound at p st lt)

  taken_holds : (at c : ℕ) (s : List ℕ) (st : List Frame) (m : Mode) → StandsOn O at st m (c ∷ s) → Fresh m c → at < begun at st m + longest →
      AfterOn Says O (at + 1) s (taken at st m c)
  taken_holds at c s st between h fresh lt = begins_holds h.0 at c s st h.1 lt (class c) refl
  taken_holds at c s st (in_run p w) h fresh lt = ((h.0, h.1, h.2, next h.3 fresh), next_bound at p st lt)
  taken_holds at c s st (after_hash p w) h fresh lt = goes_on_holds h.0 at p c h.1 s w st h.2 h.3 lt fresh (behind c) refl
  taken_holds at c s st (after_backslash p w) h fresh lt = ((h.0, h.1, h.2, character h.3), next_bound at p st lt)
  taken_holds at c s st (in_tag p w) h fresh lt = ((h.0, h.1, h.2, next_of_tag h.3 fresh), next_bound at p st lt)
  taken_holds at c s st (in_text p w) h fresh lt = quotes_holds h.0 at p c h.1 s w st h.2 h.3 lt (quoted c) refl
  taken_holds at c s st (in_escape p w) h fresh lt = ((h.0, h.1, h.2, pair h.3), next_bound at p st lt)
  taken_holds at c s st (in_comment p) h fresh lt = newline_case h.0 at p c h.1 s st h.2 h.3 lt (is_newline c) refl

  -- what a byte ends before itself
  run_case : (n at p c : ℕ) (r s w : List ℕ) (st : List Frame) → O n st p r → Inside p r w at (c ∷ s) → at ≤ outermost p st + longest →
      (b : Bool) → is_stop c ≡ b → AfterOn Says O at (c ∷ s) (if b then put (run_value p w) p st at else go st (in_run p w))
  run_case n at p c r s w st o i le true h = keep.puts o (a_run i h) le
  run_case n at p c r s w st o i le false h = ((n, r, o, i), le)

  apart_holds : (n at p c : ℕ) (r s w : List ℕ) (st : List Frame) → O n st p r → One hash p r w at (c ∷ s) → at ≤ outermost p st + longest →
      (b : Behind) → behind c ≡ b → AfterOn Says O at (c ∷ s) (apart b at st p w)
  apart_holds n at p c r s w st o i le opens_set h = ((n, r, o, i), le)
  apart_holds n at p c r s w st o i le opens_text h = ((n, r, o, i), le)
  apart_holds n at p c r s w st o i le discards_next h = ((n, r, o, i), le)
  apart_holds n at p c r s w st o i le joins h = ((n, r, o, i), le)
  apart_holds n at p c r s w st o i le stands_apart h = keep.puts o (hash_alone i h) le
  apart_holds n at p c r s w st o i le names_tag h = ((n, r, o, i), le)

  tag_case : (n at p c : ℕ) (r s w : List ℕ) (st : List Frame) → O (suc n) st p r → Tag p r w at (c ∷ s) → at ≤ outermost p st + longest →
      (b : Bool) → is_stop c ≡ b → AfterOn Says O at (c ∷ s) (if b then go (tagging p (p + 1) w ∷ st) between else go st (in_tag p w))
  tag_case n at p c r s w st o tg le true h = ((n, keep.awaits o tg h), le)
  tag_case n at p c r s w st o tg le false h = ((n, r, o, tg), le)

  ended_holds : (at c : ℕ) (s : List ℕ) (st : List Frame) (m : Mode) → StandsOn O at st m (c ∷ s) → Bound at st m → AfterOn Says O at (c ∷ s) (ended at st m c)
  ended_holds at c s st between h le = (h, le)
  ended_holds at c s st (in_run p w) h le = run_case h.0 at p c h.1 s w st h.2 h.3 le (is_stop c) refl
  ended_holds at c s st (after_hash p w) h le = apart_holds h.0 at p c h.1 s w st h.2 h.3 le (behind c) refl
  ended_holds at c s st (after_backslash p w) h le = (h, le)
  ended_holds at c s st (in_tag p w) h le = tag_case h.0 at p c h.1 s w st h.2 h.3 le (is_stop c) refl
  ended_holds at c s st (in_text p w) h le = (h, le)
  ended_holds at c s st (in_escape p w) h le = (h, le)
  ended_holds at c s st (in_comment p) h le = (h, le)

  -- the limit
  limit_case : (at c : ℕ) (s : List ℕ) (st : List Frame) (m : Mode) → StandsOn O at st m (c ∷ s) → Fresh m c →
      (b : Bool) → nat_le (begun at st m + longest) at ≡ b →
      AfterOn Says O (at + 1) s (if b then stop (too_long (begun at st m)) else taken at st m c)
  limit_case at c s st m h fresh true e = keep.too_long (begun at st m)
  limit_case at c s st m h fresh false e = taken_holds at c s st m h fresh (is_under (begun at st m + longest) at e)

  limited_holds : (at c : ℕ) (s : List ℕ) (t : Turn) → AfterOn Says O at (c ∷ s) t → FreshTurn c t → AfterOn Says O (at + 1) s (limited longest at c t)
  limited_holds at c s (stop a) h fresh = h
  limited_holds at c s (go st m) h fresh = limit_case at c s st m h.0 fresh (nat_le (begun at st m + longest) at) refl

  pub step_on : (at c : ℕ) (s : List ℕ) (st : List Frame) (m : Mode) → StandsOn O at st m (c ∷ s) → Bound at st m →
      AfterOn Says O (at + 1) s (step longest at st m c)
  step_on at c s st m h le = limited_holds at c s (ended at st m c) (ended_holds at c s st m h le) (ended_fresh at c st m)

  -- all bytes
  turn_holds : (s : List ℕ) (at : ℕ) (t : Turn) → ((st : List Frame) (m : Mode) → StandsOn O at st m s → Bound at st m → Says (run longest at st m s)) →
      AfterOn Says O at s t → Says (on_turn t (λ st' m'. run longest at st' m' s))
  turn_holds s at (go st m) ih h = ih st m h.0 h.1
  turn_holds s at (stop a) ih h = h

  end_holds : (at : ℕ) (st : List Frame) (m : Mode) → StandsOn O at st m [] → Bound at st m → Says (at_end at m st)
  end_holds at [] between h le = keep.blank h.1
  end_holds at (f ∷ st) between h le = keep.partial (outermost (place_of f) st)
  end_holds at st (in_run p w) h le = keep.partial (outermost p st)
  end_holds at st (after_hash p w) h le = keep.partial (outermost p st)
  end_holds at st (after_backslash p w) h le = keep.partial (outermost p st)
  end_holds at st (in_tag p w) h le = keep.partial (outermost p st)
  end_holds at st (in_text p w) h le = keep.partial (outermost p st)
  end_holds at st (in_escape p w) h le = keep.partial (outermost p st)
  end_holds at [] (in_comment p) h le = keep.comment h.2 h.3 le
  end_holds at (f ∷ st) (in_comment p) h le = keep.partial (outermost (place_of f) st)

  pub holds : (s : List ℕ) (at : ℕ) (st : List Frame) (m : Mode) → StandsOn O at st m s → Bound at st m → Says (run longest at st m s)
  unfolding run
  holds [] at st m h le = end_holds at st m h le
  holds (c ∷ s) at st m h le =
      turn_holds s (at + 1) (step longest at st m c) (λ st' m' h' le'. holds s (at + 1) st' m' h' le') (step_on at c s st m h le)

pub levels : {n q : ℕ} {s t : List ℕ} {st : List Frame} → Open s n st q t → n + length st ≡ 64
levels (none_open b) = refl
levels (within {n = n} {st = st} o i row) = let e : suc n + length st ≡ 64 = levels o in omega arith
levels (waits {n = n} {st = st} o h d bs) = let e : suc n + length st ≡ 64 = levels o in omega arith
levels (awaits {n = n} {st = st} o tg h bs) = let e : suc n + length st ≡ 64 = levels o in omega arith

pub skip : {n q r : ℕ} {s t u : List ℕ} {st : List Frame} → Open s n st q t → Blank n q t r u → r ≤ outermost q st + longest → Open s n st r u
skip (none_open bs) b le = none_open (one_more_short bs b le)
skip (within o i row) b le = within o i (blank row b)
skip (waits o h d bs) b le = waits o h d (one_more bs b)
skip (awaits o tg h bs) b le = awaits o tg h (one_more bs b)

pub put_holds : {n p q : ℕ} {s0 t u : List ℕ} {st : List Frame} {v : Value} → Open s0 n st p t → Element n p t v q u →
    q ≤ outermost p st + longest → AfterTurn s0 q u (put v p st q)
put_holds (none_open bs) e le = spells bs e le
put_holds (within {n = n} o i row) e le = ((n, within o i (element row e)), le)
put_holds {q = q} (waits {n = n} {p = o} {st = st} op h d bs) e le =
    ((suc n, skip op (discarded (discards h d bs e)) le), bound_here o q st le)
put_holds (awaits o tg h bs) e le = put_holds o (tagged_element tg h bs e) le

pub reach : {n p : ℕ} {s t : List ℕ} {st : List Frame} → Open s n st p t → (j : ℕ) → p ≤ j → j < outermost p st + longest → IsInReach s j
reach (none_open {q = q} {t = t} bs) j le lt = (q, t, bs, le, lt)
reach (within {p = p} {q = q} {r = r} o i row) j le lt =
    let a : p < q = (opens_past i).0 in let b : q ≤ r = tail_rises (row_tail row) in reach o j (omega arith) lt
reach (waits {p = p} {q = q} {r = r} o h d bs) j le lt =
    let a : p < q = (one_past h).0 in let b : q + 1 ≤ r = tail_rises (blanks_tail bs) in reach o j (omega arith) lt
reach (awaits {p = p} {q = q} {r = r} o tg h bs) j le lt =
    let a : p < q = (tag_past tg).0 in let b : q ≤ r = tail_rises (blanks_tail bs) in reach o j (omega arith) lt

pub closed_holds : {n q p : ℕ} {s0 s u : List ℕ} {st : List Frame} {vs : List Value} {k : Kind} {v : Value} →
    Open s0 n (frame k p vs ∷ st) q u → u ≡ closing k ∷ s → made k vs ≡ Some v → q < outermost p st + longest →
    AfterTurn s0 (q + 1) s (put v p st (q + 1))
closed_holds {k = k} (within {n = n} {p = p} {q = q} {r = r} {u = u} {st = st} {vs = vs} o i row) e m lt =
    let le : r + 1 ≤ outermost p st + longest = omega arith in
    put_holds o (collection i (subst (λ x. Row n q u vs r x) e row) m) le

-- a text
nothing_open : {n at : ℕ} {s : List ℕ} → Open s n [] at [] → IsBlankText s at
nothing_open (none_open bs) = nothing_more bs

comment_open : {n at p : ℕ} {s t : List ℕ} → Open s n [] p t → Comment p t at [] → at ≤ p + longest → IsBlankText s p
comment_open (none_open bs) i le = open_comment bs i le

text_keeps : (s : List ℕ) → Keeps (What s) (Open s)
text_keeps s = record {
  levels = levels;
  skip = skip;
  puts = put_holds;
  within = λ o i. within o i empty;
  waits = λ o i h. waits o i h no_blank;
  awaits = λ o tg h. awaits o tg h no_blank;
  closed = closed_holds;
  unbalanced = λ {n} {p} o h f lt. (unbalanced o h f, reach o p (omega arith) lt);
  odd_map = λ {n} {p} o m lt. (odd_map o m, reach o p (omega arith) lt);
  too_deep = λ {p} o h lt. (too_deep o h, reach o p (omega arith) lt);
  hash_too_deep = λ {p} {q} o i h lt. (hash_too_deep o i h, (let a : p < q = (one_past i).0 in reach o q (omega arith) lt));
  blank = nothing_open;
  comment = comment_open;
  partial = λ p. tt;
  too_long = λ p. tt;
}

pub step_holds : (at c : ℕ) (s0 s : List ℕ) (st : List Frame) (m : Mode) → Stands s0 at st m (c ∷ s) → Bound at st m →
    AfterTurn s0 (at + 1) s (step longest at st m c)
step_holds at c s0 s st m h le = step_on (What s0) (Open s0) (text_keeps s0) at c s st m h le

-- What is answered holds.
pub what : (s : List ℕ) → What s (run longest 0 [] between s)
what s = holds (What s) (Open s) (text_keeps s) s 0 [] between (64, none_open no_blank_yet) (omega arith)
