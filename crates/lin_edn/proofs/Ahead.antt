-- Rows of bytes that change nothing but the place.
use Rattle.std.proofs.Common.{◌≡◌, ℕ, zero, suc, ◌+◌, ◌-◌, ◌<◌, ◌≤◌, Bool, true, false, not, List, [], ◌∷◌, length, drop, get_or, refl, sym, ap, subst, ◌∙◌, inl, inr, arith, drop-cons, ◌||◌, ◌==◌}
use Rattle.std.proofs.lemmas.Bool.{cases_lt}
use Rattle.std.specs.List.{slice_range}
use Rattle.lin_bytes.specs.Bytes.{a_map, Class, white, semicolon, opener, closer, quote, backslash, hash, inside, class, is_white, is_stop, is_newline, quoted, stays}
use Rattle.lin_edn.specs.Grammar.{Frame, longest, outermost}
use Rattle.lin_edn.specs.inner.Machine.{Mode, between, in_run, in_tag, in_text, in_comment, go, run, begun}
use Rattle.lin_edn.specs.Scans.{IsStopAt, is_dark, is_quoting}
use Rattle.lin_bytes.specs.Bytes.{is_inside}
use Rattle.lin_edn.specs.inner.Scans.{IsAhead}
use Rattle.lin_edn.specs.declared.reader.Mode.{Mode as CodeMode}
use Rattle.lin_edn.specs.declared.reader.Mode.TheVariants as mode
use Rattle.lin_edn.specs.inner.Turns.{mode_of, IsBegun}
use Rattle.lin_edn.proofs.Forth.{begins_run, run_goes, tag_goes, text_goes, comment_goes}
use Rattle.lin_edn.proofs.Fronts.{positive}
use Rattle.lin_edn.proofs.Runs.{range_more}

along : (P : ℕ → Type 0) (k at : ℕ) → ((i : ℕ) → at ≤ i → i < at + k → P i → P (i + 1)) → P at → P (at + k)
along P zero at h p = subst P (omega arith) p
along P (suc k) at h p =
    let e : at + 1 + k ≡ at + suc k = omega arith in
    subst P e (along P k (at + 1) (λ i a b. h i (omega arith) (omega arith)) (h at (omega arith) (omega arith) p))

-- what holds at a place, and at each next one, holds at a later one
pub along_to : (P : ℕ → Type 0) (at until : ℕ) → at ≤ until → ((i : ℕ) → at ≤ i → i < until → P i → P (i + 1)) → P at → P until
along_to P at until le h p =
    let e : at + (until - at) ≡ until = omega arith in
    subst P e (along P (until - at) at (λ i a b. h i a (omega arith)) p)

pub at_byte : (s : List ℕ) (i : ℕ) → i < length s → drop i s ≡ get_or s i 0 ∷ drop (i + 1) s
at_byte s i lt =
    let e : suc i ≡ i + 1 = omega arith in
    drop-cons s i 0 lt ∙ ap (λ k. get_or s i 0 ∷ drop k s) e

-- bytes that change nothing but the place and what is open beside the levels
mode_row : (s : List ℕ) (at next : ℕ) (st : List Frame) (m : ℕ → Mode) → at ≤ next → next ≤ length s →
    ((i : ℕ) → at ≤ i → i < next → run longest i st (m i) (get_or s i 0 ∷ drop (i + 1) s) ≡ run longest (i + 1) st (m (i + 1)) (drop (i + 1) s)) →
    run longest at st (m at) (drop at s) ≡ run longest next st (m next) (drop next s)
mode_row s at next st m le within h =
    along_to (λ i. run longest at st (m at) (drop at s) ≡ run longest i st (m i) (drop i s)) at next le
    (λ i a b e. e ∙ ap (run longest i st (m i)) (at_byte s i (omega arith)) ∙ h i a b) refl

pub run_row : (s : List ℕ) (at next p : ℕ) (st : List Frame) → p ≤ at → at ≤ next → next ≤ length s → next ≤ outermost p st + longest →
    ((i : ℕ) → at ≤ i → i < next → is_stop (get_or s i 0) ≡ false) →
    run longest at st (in_run p (slice_range s p at)) (drop at s) ≡ run longest next st (in_run p (slice_range s p next)) (drop next s)
run_row s at next p st before le within short h =
    mode_row s at next st (λ i. in_run p (slice_range s p i)) le within (λ i a b.
    run_goes longest i st p (slice_range s p i) (get_or s i 0) (drop (i + 1) s) (h i a b) (omega arith)
    ∙ ap (λ w. run longest (i + 1) st (in_run p w) (drop (i + 1) s)) (sym (range_more s p i (omega arith) (omega arith))))

pub tag_row : (s : List ℕ) (at next p : ℕ) (st : List Frame) → p + 1 ≤ at → at ≤ next → next ≤ length s → next ≤ outermost p st + longest →
    ((i : ℕ) → at ≤ i → i < next → is_stop (get_or s i 0) ≡ false) →
    run longest at st (in_tag p (slice_range s (p + 1) at)) (drop at s) ≡ run longest next st (in_tag p (slice_range s (p + 1) next)) (drop next s)
tag_row s at next p st before le within short h =
    mode_row s at next st (λ i. in_tag p (slice_range s (p + 1) i)) le within (λ i a b.
    tag_goes longest i st p (slice_range s (p + 1) i) (get_or s i 0) (drop (i + 1) s) (h i a b) (omega arith)
    ∙ ap (λ w. run longest (i + 1) st (in_tag p w) (drop (i + 1) s)) (sym (range_more s (p + 1) i (omega arith) (omega arith))))

plain_if : (a b : Bool) → (a || b) ≡ false → (a ≡ false) × (b ≡ false)
plain_if true b h = absurd (cc)
plain_if false true h = absurd (cc)
plain_if false false h = (refl, refl)

pub stays_of : (c : ℕ) → is_quoting c ≡ false → quoted c ≡ stays
stays_of c h = let e = plain_if (c == 34) (c == 92) h in rw (e.0, e.1) refl

pub text_row : (s : List ℕ) (at next p : ℕ) (st : List Frame) → p ≤ at → at ≤ next → next ≤ length s → next ≤ outermost p st + longest →
    ((i : ℕ) → at ≤ i → i < next → is_quoting (get_or s i 0) ≡ false) →
    run longest at st (in_text p (slice_range s p at)) (drop at s) ≡ run longest next st (in_text p (slice_range s p next)) (drop next s)
text_row s at next p st before le within short h =
    mode_row s at next st (λ i. in_text p (slice_range s p i)) le within (λ i a b.
    text_goes longest i st p (slice_range s p i) (get_or s i 0) (drop (i + 1) s) stays (stays_of (get_or s i 0) (h i a b)) (omega arith)
    ∙ ap (λ w. run longest (i + 1) st (in_text p w) (drop (i + 1) s)) (sym (range_more s p i (omega arith) (omega arith))))

pub comment_row : (s : List ℕ) (at next p : ℕ) (st : List Frame) → at ≤ next → next ≤ length s → next ≤ outermost p st + longest →
    ((i : ℕ) → at ≤ i → i < next → is_newline (get_or s i 0) ≡ false) →
    run longest at st (in_comment p) (drop at s) ≡ run longest next st (in_comment p) (drop next s)
comment_row s at next p st le within short h =
    mode_row s at next st (λ i. in_comment p) le within (λ i a b. comment_goes longest i st p (get_or s i 0) (drop (i + 1) s) (h i a b) (omega arith))

pub lit : (b : Bool) → not b ≡ false → b ≡ true
lit true h = refl
lit false h = absurd (cc)

pub white_class : (c : ℕ) → is_white c ≡ true → class c ≡ white
white_class c h = rw h refl

pub opens_map : (c : ℕ) → c ≡ 123 → class c ≡ opener a_map
opens_map c h = rw h refl

room : (i p : ℕ) (st : List Frame) → i < outermost p st + longest → i < outermost i st + longest
room i p [] lt = let z : 0 < longest = positive in omega arith
room i p (f ∷ st) lt = lt

pub white_row : (s : List ℕ) (at next p : ℕ) (st : List Frame) → at ≤ next → next ≤ length s → next ≤ outermost p st + longest →
    ((i : ℕ) → at ≤ i → i < next → is_dark (get_or s i 0) ≡ false) →
    run longest at st between (drop at s) ≡ run longest next st between (drop next s)
white_row s at next p st le within short h =
    mode_row s at next st (λ i. between) le within (λ i a b.
    let fits : i < outermost p st + longest = omega arith in
    begins_run longest i st (get_or s i 0) (drop (i + 1) s) white (go st between) (white_class (get_or s i 0) (lit (is_white (get_or s i 0)) (h i a b))) (room i p st fits) refl)

pub inside_of : (k : Class) → is_inside k ≡ true → k ≡ inside
inside_of white h = absurd (cc)
inside_of semicolon h = absurd (cc)
inside_of (opener k) h = absurd (cc)
inside_of closer h = absurd (cc)
inside_of quote h = absurd (cc)
inside_of backslash h = absurd (cc)
inside_of hash h = absurd (cc)
inside_of inside h = refl

-- which byte stops what is open beside the levels
abbrev pub stops_in : CodeMode → ℕ → Bool
stops_in mode.Between = is_dark
stops_in (mode.Run p) = is_stop
stops_in (mode.Hash p) = λ c. true
stops_in (mode.Backslash p) = λ c. true
stops_in (mode.Tag p) = is_stop
stops_in (mode.Text p) = is_quoting
stops_in (mode.Escape p) = λ c. true
stops_in (mode.Comment p) = is_newline

at_once : (s : List ℕ) (at end r : ℕ) → IsStopAt (λ c. true) s at end r → at ≡ r
at_once s at end r h = elim (cases_lt at r) [
  | inl lt ↦ (let e = h.2 at (omega arith) lt in absurd (cc))
  | inr le ↦ (let from : at ≤ r = h.0 in omega arith)
]

here_ahead : (s : List ℕ) (at end r : ℕ) (st : List Frame) (m : CodeMode) → at ≤ length s → IsBegun m at → IsStopAt (λ c. true) s at end r → IsAhead s at r st m
here_ahead s at end r st m within before h = subst (λ n. IsAhead s at n st m) (at_once s at end r h) (omega arith, within, refl, before)

mode_ahead : (s : List ℕ) (at end r : ℕ) (st : List Frame) (m : CodeMode) → IsStopAt (stops_in m) s at end r → IsBegun m at → end ≤ length s →
    end ≤ begun at st (mode_of s at m) + longest → IsAhead s at r st m
mode_ahead s at end r st mode.Between h before within short = (h.0, omega arith, white_row s at r at st h.0 (omega arith) (omega arith) h.2, tt)
mode_ahead s at end r st (mode.Run p) h before within short = (h.0, omega arith, run_row s at r p st before h.0 (omega arith) (omega arith) h.2, omega arith)
mode_ahead s at end r st (mode.Hash p) h before within short = here_ahead s at end r st (mode.Hash p) (omega arith) before h
mode_ahead s at end r st (mode.Backslash p) h before within short = here_ahead s at end r st (mode.Backslash p) (omega arith) before h
mode_ahead s at end r st (mode.Tag p) h before within short = (h.0, omega arith, tag_row s at r p st before h.0 (omega arith) (omega arith) h.2, omega arith)
mode_ahead s at end r st (mode.Text p) h before within short = (h.0, omega arith, text_row s at r p st before h.0 (omega arith) (omega arith) h.2, omega arith)
mode_ahead s at end r st (mode.Escape p) h before within short = here_ahead s at end r st (mode.Escape p) (omega arith) before h
mode_ahead s at end r st (mode.Comment p) h before within short = (h.0, omega arith, comment_row s at r p st h.0 (omega arith) (omega arith) h.2, omega arith)

-- what the code's search found ends what is open
pub found_ahead : (s : List ℕ) (at end r from : ℕ) (st : List Frame) (m found : CodeMode) → m ≡ found → IsStopAt (stops_in found) s at end r → IsBegun m at → end ≤ length s →
    ((t : List ℕ) → from ≡ begun at st (mode_of t at m)) → end ≤ from + longest → IsAhead s at r st m
found_ahead s at end r from st m found is h before within begins short =
    mode_ahead s at end r st m (subst (λ k. IsStopAt (stops_in k) s at end r) (sym is) h) before within (let e = begins s in omega arith)
