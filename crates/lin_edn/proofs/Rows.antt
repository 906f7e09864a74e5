-- A list or vector that is read element by element.
use Rattle.std.proofs.Common.{◌≡◌, ℕ, ◌+◌, ◌≤◌, ◌<◌, Bool, true, false, not, List, [], ◌∷◌, ◌++◌, length, drop, get_or, inl, inr, Option, Some, None, IfNone, MatchOption, Ok, refl, sym, ap, ◌∙◌, subst, arith, true≢false, append_assoc, append-nil, length-append, length-drop}
use Rattle.std.proofs.lemmas.List.{drop-append-le}
use Rattle.std.proofs.lemmas.Bool.{cases_lt}
use Rattle.lin_bytes.specs.Bytes.{Kind, closing, is_white}
use Rattle.lin_edn.specs.Grammar.{Opens, Blanks, no_blank, Row, empty, blank, element, longest, ShortBlanks, Spells, IsTagAt, Frame, frame, tagging, Open, none_open, awaits, within}
use Rattle.lin_edn.specs.inner.Machine.{run, between, complete, put}
use Rattle.lin_edn.specs.Rows.{IsRow, IsRound, IsBehind, IsClosed, IsElementAt, IsAtNothing, bracket_of, value_in, IsBracketless, row_levels}
use Rattle.lin_edn.specs.Scans.{IsStopAt, is_dark}
use Rattle.lin_edn.specs.inner.Scans.{IsWrapped, IsFound, waiting}
use Rattle.lin_edn.specs.Value.{Value, tagged, made}
use Rattle.lin_edn.specs.View.{view}
use Rattle.lin_edn.specs.declared.Edn.{Edn}
use Rattle.lin_edn.specs.declared.series.Series.{Series}
use Rattle.lin_edn.proofs.Ahead.{at_byte}
use Rattle.lin_edn.proofs.Back.{AfterTurn, closed_holds}
use Rattle.lin_edn.specs.lemmas.Longer.{open_longer}
use Rattle.lin_edn.specs.lemmas.Rising.{blanks_tail, element_past, tail_rises, then, tail_size}
use Rattle.lin_edn.proofs.Standing.{with_blanks, white_blanks}

-- more bytes behind the text
pub row_more : (r : Series) (s x : List ℕ) (vs : List Value) → IsRow r s vs → IsRow r (s ++ x) vs
row_more r s x vs h =
    let inside : r.at ≤ length s = h.0 in (
      (let e = length-append s x in omega arith),
      h.1,
      h.2,
      h.3,
      h.4,
      subst (Open (s ++ x) (row_levels r) (frame (bracket_of r.is_vector) h.2 vs ∷ h.3) r.at) (sym (drop-append-le r.at s x inside)) (open_longer h.5 x),
    )

-- the opening byte
pub row_plain : (s : List ℕ) (begun end : ℕ) (b : Bool) → ShortBlanks s begun (drop begun s) → begun < end → end ≤ length s → end ≤ longest →
    Opens (bracket_of b) begun (drop begun s) (begun + 1) (drop (begun + 1) s) → IsRow (record { is_vector = b; is_tagged = false; begun = begun; at = begun + 1 }) s []
row_plain s begun end b short lt inside most i = (omega arith, omega arith, begun, [], (refl, refl), within (none_open short) i empty)

if_none : {A P : Type 0} (o : Option A) → P → IfNone o P
if_none None h = h
if_none (Some x) h = tt

light : (c k : ℕ) → is_dark k ≡ true → is_dark c ≡ false → c ≡ k → ⊥
light c k dark h e = cc

white_not : (b : Bool) → not b ≡ true → b ≡ false
white_not true h = absurd (true≢false (sym h))
white_not false h = refl

white_dark : (c : ℕ) → is_white c ≡ true → is_dark c ≡ true → ⊥
white_dark c white dark = true≢false (sym dark ∙ ap not white)

pub bracketless : (o : Option Series) (s : List ℕ) (begun end : ℕ) → ((i : ℕ) → i < 0 + longest → i < length s → i < end) → IsStopAt is_dark s 0 end begun →
    (begun < end → (get_or s begun 0 ≡ 91 → ⊥) × (get_or s begun 0 ≡ 40 → ⊥)) → IfNone o (IsBracketless s)
bracketless o s begun end whole stop none = if_none o (λ at lt short before.
    let inside : at < end = whole at (omega arith) lt in
    elim (cases_lt at begun) [
      | inl earlier ↦ (let dark = stop.2 at (omega arith) earlier in (λ e. light (get_or s at 0) 91 refl dark e, λ e. light (get_or s at 0) 40 refl dark e))
      | inr le ↦ elim (cases_lt begun at) [
        | inl later ↦ absurd (white_dark (get_or s begun 0) (before begun later) (stop.3 (omega arith)))
        | inr ge ↦ (let same : begun ≡ at = omega arith in subst (λ i. (get_or s i 0 ≡ 91 → ⊥) × (get_or s i 0 ≡ 40 → ⊥)) same (none (omega arith)))
      ]
    ])

-- a tag and the opening byte
pub row_behind_tag : (s : List ℕ) (begun until from end : ℕ) (b : Bool) → ShortBlanks s begun (drop begun s) → IsTagAt s begun until → IsStopAt is_dark s until end from →
    from < end → end ≤ length s → end ≤ longest → Opens (bracket_of b) from (drop from s) (from + 1) (drop (from + 1) s) →
    IsRow (record { is_vector = b; is_tagged = true; begun = begun; at = from + 1 }) s []
row_behind_tag s begun until from end b short tag white lt inside most i =
    let whites : Blanks 63 until (tag.1 ∷ tag.2) from (drop from s) =
    subst (λ l. Blanks 63 until l from (drop from s)) tag.5 (white_blanks s until until from end white inside 63 no_blank) in (
      omega arith,
      omega arith,
      from,
      tagging begun (begun + 1) tag.0 ∷ [],
      (begun + 1, tag.0, refl),
      within (awaits (none_open short) tag.3 tag.4 whites) i empty,
    )

-- more in what is open
more_in : {n o p r : ℕ} {s t x : List ℕ} {st : List Frame} {k : Kind} {vs ws : List Value} → Open s n (frame k o vs ∷ st) p t →
    ((q : ℕ) (u : List ℕ) → Row n q u vs p t → Row n q u ws r x) → Open s n (frame k o ws ∷ st) r x
more_in (within {q = q} {u = u} o i row) more = within o i (more q u row)

further : (r : Series) (s : List ℕ) (vs ws : List Value) (next : ℕ) → IsRow r s vs → next ≤ length s → next ≤ longest →
    ((q : ℕ) (u : List ℕ) → Row (row_levels r) q u vs r.at (drop r.at s) → Row (row_levels r) q u ws next (drop next s)) →
    IsRow (record { is_vector = r.is_vector; is_tagged = r.is_tagged; begun = r.begun; at = next }) s ws
further r s vs ws next row inside short more = (inside, short, row.2, row.3, row.4, more_in row.5 more)

-- white bytes
pub row_white : (r : Series) (s : List ℕ) (vs : List Value) (next end : ℕ) → IsRow r s vs → IsStopAt is_dark s r.at end next → end ≤ length s → end ≤ longest →
    IsRow (record { is_vector = r.is_vector; is_tagged = r.is_tagged; begun = r.begun; at = next }) s vs
row_white r s vs next end row stop inside short =
    let to_end : next ≤ end = stop.1 in
    further r s vs vs next row (omega arith) (omega arith) (λ q u before. with_blanks before (white_blanks s r.at r.at next end stop inside (row_levels r) no_blank))

-- the closing byte
made_is : (b : Bool) (vs : List Value) → made (bracket_of b) vs ≡ Some (value_in b vs)
made_is true vs = refl
made_is false vs = refl

closes_round : (is_tagged : Bool) (s t : List ℕ) (begun o at : ℕ) (st : List Frame) (v : Value) → IsRound is_tagged begun o st →
    AfterTurn s at t (put v o st at) → (w : Value) × IsBehind is_tagged v w × Spells s w begun at
closes_round true s t begun o at st v round h =
    (tagged round.0 round.1 v, (round.0, round.1, refl), subst (λ (fs : List Frame). AfterTurn s at t (put v o fs at)) round.2 h)
closes_round false s t begun o at st v round h =
    (v, refl, subst (λ p. Spells s v p at) round.0 (subst (λ (fs : List Frame). AfterTurn s at t (put v o fs at)) round.1 h))

pub row_closed : (r : Series) (s : List ℕ) (vs : List Value) → IsRow r s vs → r.at < length s → r.at < longest → get_or s r.at 0 ≡ closing (bracket_of r.is_vector) →
    IsClosed r s vs (r.at + 1)
row_closed r s vs row lt short h =
    closes_round r.is_tagged s (drop (r.at + 1) s) r.begun row.2 (r.at + 1) row.3 (value_in r.is_vector vs) row.4
    (closed_holds row.5 (at_byte s r.at lt ∙ ap (λ c. c ∷ drop (r.at + 1) s) h) (made_is r.is_vector vs) (omega arith))

-- an element
pub element_inside : {levels : ℕ} (s : List ℕ) (from : ℕ) (v : Value) (used : ℕ) → IsElementAt levels s from v used → (from < used) × (used ≤ length s)
element_inside s from v used e =
    let a : from ≤ e.0 = tail_rises (blanks_tail e.2) in
    let b : e.0 < used = (element_past e.3).0 in
    let size : from + length (drop from s) ≡ used + length (drop used s) = tail_size (then (blanks_tail e.2) (element_past e.3).1) in
    let all = length-drop from s in
    (omega arith, omega arith)

pub row_element : (r : Series) (s : List ℕ) (vs : List Value) (v : Value) (used : ℕ) → IsRow r s vs → IsElementAt (row_levels r) s r.at v used →
    IsRow (record { is_vector = r.is_vector; is_tagged = r.is_tagged; begun = r.begun; at = used }) s (vs ++ v ∷ [])
row_element r s vs v used row e =
    further r s vs (vs ++ v ∷ []) used row (element_inside s r.at v used e).1 e.4 (λ q u before. element (with_blanks before e.2) e.3)

-- blanks and elements
joined : {n p q r : ℕ} {s t u : List ℕ} {vs ws : List Value} → Row n p s vs q t → Row n q t ws r u → Row n p s (vs ++ ws) r u
joined {n = n} {p = p} {q = q} {s = s} {t = t} {vs = vs} row empty = subst (λ l. Row n p s l q t) (sym (append-nil vs)) row
joined row (blank rest b) = blank (joined row rest) b
joined {n = n} {p = p} {r = r} {s = s} {u = u} {vs = vs} row (element {vs = ws} {v = v} rest e) =
    subst (λ l. Row n p s l r u) (append_assoc vs ws (v ∷ [])) (element (joined row rest) e)

pub row_passed : (r : Series) (s : List ℕ) (vs ws : List Value) (until : ℕ) → IsRow r s vs → until ≤ length s → until ≤ longest →
    Row (row_levels r) r.at (drop r.at s) ws until (drop until s) →
    IsRow (record { is_vector = r.is_vector; is_tagged = r.is_tagged; begun = r.begun; at = until }) s (vs ++ ws)
row_passed r s vs ws until row inside short passed = further r s vs (vs ++ ws) until row inside short (λ q u before. joined before passed)

pub same_value : {v w : Value} {p q r o : ℕ} → complete v p q ≡ complete w r o → v ≡ w
same_value h = cc

-- an element behind tags
pub one_wrapped : (two : Bool) (x y : Value) (i : ℕ) (name : List ℕ) → two ≡ false → x ≡ tagged i name y → IsWrapped two y x
one_wrapped false x y i name h e = (i, name, e)
one_wrapped true x y i name h e = absurd (true≢false h)

pub two_wrapped : (two : Bool) (x y z : Value) (i j : ℕ) (a b : List ℕ) → two ≡ true → x ≡ tagged i a y → y ≡ tagged j b z → IsWrapped two z x
two_wrapped true x y z i j a b h e f = (i, j, a, b, e ∙ ap (tagged i a) f)
two_wrapped false x y z i j a b h e f = absurd (true≢false (sym h))

pub none_wrapped : (two : Bool) (x v w : Value) → ((i : ℕ) (name : List ℕ) (u : Value) → x ≡ tagged i name u → ⊥) → IsWrapped two v w → x ≡ w → ⊥
none_wrapped true x v w none t e = none t.0 t.2 (tagged t.1 t.3 v) (e ∙ t.4)
none_wrapped false x v w none t e = none t.0 t.1 v (e ∙ t.2)

pub none_inside : (two : Bool) (x y v w : Value) (i : ℕ) (a : List ℕ) → two ≡ true → x ≡ tagged i a y →
    ((j : ℕ) (name : List ℕ) (u : Value) → y ≡ tagged j name u → ⊥) → IsWrapped two v w → x ≡ w → ⊥
none_inside true x y v w i a h e none t same = none t.1 t.3 v (let f = t.4 in cc)
none_inside false x y v w i a h e none t same = absurd (true≢false (sym h))

-- what the machine says behind the tags that wait
pub found_if : (two : Bool) (s : List ℕ) (from : ℕ) (r : Option (Edn × ℕ)) → MatchOption r
    ((w v : Value) (p used : ℕ) → IsWrapped two v w → run longest from (waiting two) between (drop from s) ≡ complete w p used → ⊥)
    (λ x. (w : Value) × (p : ℕ) × IsWrapped two (view x.0) w × (run longest from (waiting two) between (drop from s) ≡ complete w p x.1)) → IsFound two s from (Ok r)
found_if two s from (Some x) h = h
found_if two s from None h = λ v used b. h b.0 v b.1 used b.2 b.3

-- nothing stands behind the end of what is read
pub nothing_past : (r : Series) (s : List ℕ) (end : ℕ) → ((i : ℕ) → i < 0 + longest → i < length s → i < end) → end ≤ r.at → IsAtNothing r s
nothing_past r s end whole le = (
  λ v used e.
      let later : r.at < used = (element_inside s r.at v used e).0 in
      let inside : used ≤ length s = (element_inside s r.at v used e).1 in
      let short : used ≤ longest = e.4 in
      let h : r.at < end = whole r.at (omega arith) (omega arith) in omega arith,
  λ lt short e. (let h : r.at < end = whole r.at (omega arith) lt in omega arith),
  λ lt short. (let h : r.at < end = whole r.at (omega arith) lt in absurd (omega arith)),
)

-- no white stands where it ends
pub none_white : (s : List ℕ) (from end at : ℕ) → IsStopAt is_dark s from end at → at < end → is_white (get_or s at 0) ≡ false
none_white s from end at h lt = white_not (is_white (get_or s at 0)) (h.3 lt)
