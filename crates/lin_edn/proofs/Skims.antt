-- The reader without values goes with the machine.
use Rattle.std.proofs.Common.{◌≡◌, ℕ, zero, suc, ◌+◌, ◌<◌, Bool, true, false, ◌&&◌, ◌==◌, nat_le, if◌then◌else◌, List, [], ◌∷◌, ◌++◌, length, get_or, subst, take, length-take-le, ◌≤◌, drop, length-drop, map as each, refl, sym, ap, ◌∙◌, arith, Option, Some, None, is_some, rules, tests, append_assoc, append-nil, length-append}
use Rattle.std.proofs.lemmas.List.{length-map}
use Rattle.lin_bytes.specs.Bytes.{a_set, Class, class, white, semicolon, opener, closer, quote, backslash, hash, inside, is_stop, is_newline, closing, Behind, behind, opens_set, opens_text, discards, joins, stands_apart, names_tag, Quoted, quoted, ends, escapes, stays}
use Rattle.lin_edn.specs.Grammar.{no_blank_yet, Open, none_open, Frame, frame, discarding, tagging, longest, IsUnfinished, IsBlankText, outermost}
use Rattle.lin_edn.specs.inner.Machine.{Mode, between, in_run, after_hash, after_backslash, in_tag, in_text, in_escape, in_comment, partial, blank, fault, too_long, Turn, go, stop, run, step, limited, ended, taken, begun, put, deeper, begins, goes_on, quotes, apart, close, closed, at_end}
use Rattle.lin_edn.specs.Run.{run_value}
use Rattle.lin_edn.specs.Rows.{IsRow, IsRound, bracket_of, row_levels}
use Rattle.lin_edn.specs.Skimming.{Shape, brackets, a_discard, a_tag, shape_of, IsIn, LeavesOpen, HasSeen, IsMoreOf, is_more_of, shapes_of, IsOpenText}
use Rattle.lin_edn.specs.inner.Skimming.{still, put_shape, with_part, apart_shape, ended_shape, deeper_shape, close_shape, begins_shape, goes_on_shape, quotes_shape, taken_shape, HasGone, HasStopped, row_shapes}
use Rattle.lin_edn.specs.Value.{Value, atom, text as a_text, tagged, made}
use Rattle.lin_edn.specs.declared.EdnCause.TheVariants.{Unbalanced, TooDeep}
use Rattle.lin_edn.specs.declared.series.Series.{Series}
use Rattle.lin_edn.specs.declared.skim.Part.{Part}
use Rattle.lin_edn.specs.declared.skim.Part.TheVariants as part
use Rattle.lin_edn.specs.declared.skim.Skim.{Skim}
use Rattle.lin_edn.proofs.Back.{What, what, levels, Stands, AfterTurn, step_holds}
use Rattle.lin_edn.proofs.Fronts.{made_empty, made_grown}
use Rattle.lin_edn.specs.lemmas.Longer.{one_longer, inside_longer, tag_longer, text_longer, escape_longer, comment_longer, open_longer}
use Rattle.lin_edn.proofs.Sound.{unfinished_of}
use Rattle.lin_edn.proofs.Wrong.{stands_run}
use Rattle.lin_edn.proofs.Limit.{is_above}

-- the part that a machine is in
abbrev pub part_of : Mode → Part
part_of between = part.Between
part_of (in_run p w) = part.Run
part_of (after_hash p w) = part.Hash
part_of (after_backslash p w) = part.Backslash
part_of (in_tag p w) = part.Tag
part_of (in_text p w) = part.Text
part_of (in_escape p w) = part.Escape
part_of (in_comment p) = part.Comment

-- a turn goes on to a state of this shape, and what stands at the top began where it did
pub data Follows : ℕ → ℕ → Turn → List Shape → Part → Type 0 where
  follows : {at b : ℕ} {t : Turn} {ls : List Shape} {p : Part} (st : List Frame) (m : Mode) → t ≡ go st m → each shape_of st ≡ ls → part_of m ≡ p →
      begun at st m ≡ b → Follows at b t ls p

-- after a turn nothing is open
abbrev pub IsOver : Turn → Type 0
IsOver (go st m) = (st ≡ []) × (m ≡ between)
IsOver (stop a) = Unit {0}

-- what an outcome of the shapes says of a turn
abbrev pub Matches : ℕ → ℕ → Turn → Option (List Shape × Part) → Type 0
Matches at b t None = IsOver t
Matches at b t (Some r) = Follows at b t r.0 r.1

put_case : (v : Value) (p : ℕ) (st : List Frame) (q : ℕ) (o : Option (List Shape)) → put_shape (each shape_of st) ≡ o →
    Matches q (outermost p st) (put v p st q) (with_part part.Between o)
put_case v p [] q None h = tt
put_case v p (frame k o vs ∷ st) q None h = absurd (cc)
put_case v p (discarding o ∷ []) q None h = (refl, refl)
put_case v p (discarding o ∷ (f ∷ st)) q None h = absurd (cc)
put_case v p (tagging o i w ∷ st) q None h = put_case (tagged i w v) o st q None h
put_case v p [] q (Some ls) h = absurd (cc)
put_case v p (frame k o vs ∷ st) q (Some ls) h =
    follows (frame k o (vs ++ v ∷ []) ∷ st) between refl (ap (λ b. brackets k b ∷ each shape_of st) (made_grown k vs v) ∙ cc) refl refl
put_case v p (discarding o ∷ []) q (Some ls) h = absurd (cc)
put_case v p (discarding o ∷ (f ∷ st)) q (Some ls) h = follows (f ∷ st) between refl (cc) refl refl
put_case v p (tagging o i w ∷ st) q (Some ls) h = put_case (tagged i w v) o st q (Some ls) h

put_matches : (v : Value) (p : ℕ) (st : List Frame) (q : ℕ) → Matches q (outermost p st) (put v p st q) (with_part part.Between (put_shape (each shape_of st)))
put_matches v p st q = put_case v p st q (put_shape (each shape_of st)) refl

still_matches : (p at : ℕ) (st : List Frame) → Matches at (outermost p st) (go st between) (with_part part.Between (still (each shape_of st)))
still_matches p at [] = (refl, refl)
still_matches p at (f ∷ st) = follows (f ∷ st) between refl refl refl refl

-- what a byte ends before itself
run_if : (at p : ℕ) (w : List ℕ) (st : List Frame) (b : Bool) → Matches at (outermost p st) (if b then put (run_value p w) p st at else go st (in_run p w))
    (if b then with_part part.Between (put_shape (each shape_of st)) else Some (each shape_of st, part.Run))
run_if at p w st true = put_matches (run_value p w) p st at
run_if at p w st false = follows st (in_run p w) refl refl refl refl

tag_if : (at p : ℕ) (w : List ℕ) (st : List Frame) → length st < 64 → (b : Bool) →
    Matches at (outermost p st) (if b then go (tagging p (p + 1) w ∷ st) between else go st (in_tag p w))
    (if b then deeper_shape (each shape_of st) (a_tag ∷ each shape_of st, part.Between) else Some (each shape_of st, part.Tag))
tag_if at p w st lt true =
    let few : length (each shape_of st) < 64 = rw length-map lt in
    subst (λ x. Matches at (outermost p st) (go (tagging p (p + 1) w ∷ st) between) (if x then None else Some (a_tag ∷ each shape_of st, part.Between)))
    (sym (is_above 64 (length (each shape_of st)) few)) (follows (tagging p (p + 1) w ∷ st) between refl refl refl refl)
tag_if at p w st lt false = follows st (in_tag p w) refl refl refl refl

apart_matches : (at p : ℕ) (w : List ℕ) (st : List Frame) (b : Behind) → Matches at (outermost p st) (apart b at st p w) (apart_shape b (each shape_of st))
apart_matches at p w st opens_set = follows st (after_hash p w) refl refl refl refl
apart_matches at p w st opens_text = follows st (after_hash p w) refl refl refl refl
apart_matches at p w st discards = follows st (after_hash p w) refl refl refl refl
apart_matches at p w st joins = follows st (after_hash p w) refl refl refl refl
apart_matches at p w st stands_apart = put_matches (atom p w) p st at
apart_matches at p w st names_tag = follows st (after_hash p w) refl refl refl refl

pub ended_matches : (text rest : List ℕ) (at c : ℕ) (st : List Frame) (m : Mode) → Stands text at st m rest →
    Matches at (begun at st m) (ended at st m c) (ended_shape (part_of m) (each shape_of st) c)
ended_matches text rest at c st between h = follows st between refl refl refl refl
ended_matches text rest at c st (in_run p w) h = run_if at p w st (is_stop c)
ended_matches text rest at c st (after_hash p w) h = apart_matches at p w st (behind c)
ended_matches text rest at c st (after_backslash p w) h = follows st (after_backslash p w) refl refl refl refl
ended_matches text rest at c st (in_tag p w) h = (let all : suc h.0 + length st ≡ 64 = levels h.2 in tag_if at p w st (omega arith) (is_stop c))
ended_matches text rest at c st (in_text p w) h = follows st (in_text p w) refl refl refl refl
ended_matches text rest at c st (in_escape p w) h = follows st (in_escape p w) refl refl refl refl
ended_matches text rest at c st (in_comment p) h = follows st (in_comment p) refl refl refl refl

-- the byte itself
deeper_case : (at b here p : ℕ) (t : Turn) (r : List Shape × Part) (d : Bool) → Follows at b t r.0 r.1 →
    Matches at b (if d then stop (fault here p TooDeep) else t) (if d then None else Some r)
deeper_case at b here p t r true h = tt
deeper_case at b here p t r false h = h

deeper_matches : (at b here p : ℕ) (st : List Frame) (t : Turn) (r : List Shape × Part) → Follows at b t r.0 r.1 →
    Matches at b (deeper here p st t) (deeper_shape (each shape_of st) r)
deeper_matches at b here p st t r h = rw length-map (deeper_case at b here p t r (nat_le 64 (length st)) h)

closed_if : (at o : ℕ) (st : List Frame) (b : Bool) (m : Option Value) →
    Matches (at + 1) (outermost o st) (if b then closed m o st at else stop (fault at at Unbalanced))
    (if b && is_some m then with_part part.Between (put_shape (each shape_of st)) else None)
closed_if at o st true None = tt
closed_if at o st true (Some v) = put_matches v o st (at + 1)
closed_if at o st false None = tt
closed_if at o st false (Some v) = tt

close_matches : (at c : ℕ) (st : List Frame) → Matches (at + 1) (outermost at st) (close at st c) (close_shape (each shape_of st) c)
close_matches at c [] = tt
close_matches at c (frame k o vs ∷ st) = closed_if at o st (closing k == c) (made k vs)
close_matches at c (discarding o ∷ st) = tt
close_matches at c (tagging o i w ∷ st) = tt

begins_matches : (at c : ℕ) (st : List Frame) (k : Class) → Matches (at + 1) (outermost at st) (begins k at st c) (begins_shape k (each shape_of st) c)
begins_matches at c st white = still_matches at (at + 1) st
begins_matches at c st semicolon = follows st (in_comment at) refl refl refl refl
begins_matches at c st (opener k) =
    deeper_matches (at + 1) (outermost at st) at at st (go (frame k at [] ∷ st) between) (brackets k true ∷ each shape_of st, part.Between)
    (follows (frame k at [] ∷ st) between refl (ap (λ b. brackets k b ∷ each shape_of st) (made_empty k)) refl refl)
begins_matches at c st closer = close_matches at c st
begins_matches at c st quote = follows st (in_text at (c ∷ [])) refl refl refl refl
begins_matches at c st backslash = follows st (after_backslash at (c ∷ [])) refl refl refl refl
begins_matches at c st hash = follows st (after_hash at (c ∷ [])) refl refl refl refl
begins_matches at c st inside = follows st (in_run at (c ∷ [])) refl refl refl refl

goes_on_matches : (at c p : ℕ) (w : List ℕ) (st : List Frame) (b : Behind) → Matches (at + 1) (outermost p st) (goes_on b at st p w c) (goes_on_shape b (each shape_of st))
goes_on_matches at c p w st opens_set =
    deeper_matches (at + 1) (outermost p st) at p st (go (frame a_set p [] ∷ st) between) (brackets a_set true ∷ each shape_of st, part.Between)
    (follows (frame a_set p [] ∷ st) between refl refl refl refl)
goes_on_matches at c p w st opens_text = follows st (in_text p (w ++ c ∷ [])) refl refl refl refl
goes_on_matches at c p w st discards =
    deeper_matches (at + 1) (outermost p st) at p st (go (discarding p ∷ st) between) (a_discard ∷ each shape_of st, part.Between)
    (follows (discarding p ∷ st) between refl refl refl refl)
goes_on_matches at c p w st joins = follows st (in_run p (w ++ c ∷ [])) refl refl refl refl
goes_on_matches at c p w st stands_apart = follows st (in_run p (w ++ c ∷ [])) refl refl refl refl
goes_on_matches at c p w st names_tag =
    deeper_matches (at + 1) (outermost p st) at p st (go st (in_tag p (c ∷ []))) (each shape_of st, part.Tag) (follows st (in_tag p (c ∷ [])) refl refl refl refl)

quotes_matches : (at c p : ℕ) (w : List ℕ) (st : List Frame) (k : Quoted) → Matches (at + 1) (outermost p st) (quotes k at st p w c) (quotes_shape k (each shape_of st))
quotes_matches at c p w st ends = put_matches (a_text p (w ++ c ∷ [])) p st (at + 1)
quotes_matches at c p w st escapes = follows st (in_escape p (w ++ c ∷ [])) refl refl refl refl
quotes_matches at c p w st stays = follows st (in_text p (w ++ c ∷ [])) refl refl refl refl

newline_if : (at p : ℕ) (st : List Frame) (b : Bool) → Matches (at + 1) (outermost p st) (if b then go st between else go st (in_comment p))
    (if b then with_part part.Between (still (each shape_of st)) else Some (each shape_of st, part.Comment))
newline_if at p st true = still_matches p (at + 1) st
newline_if at p st false = follows st (in_comment p) refl refl refl refl

pub taken_matches : (at c : ℕ) (st : List Frame) (m : Mode) → Matches (at + 1) (begun at st m) (taken at st m c) (taken_shape (part_of m) (each shape_of st) c)
taken_matches at c st between = begins_matches at c st (class c)
taken_matches at c st (in_run p w) = follows st (in_run p (w ++ c ∷ [])) refl refl refl refl
taken_matches at c st (after_hash p w) = goes_on_matches at c p w st (behind c)
taken_matches at c st (after_backslash p w) = follows st (in_run p (w ++ c ∷ [])) refl refl refl refl
taken_matches at c st (in_tag p w) = follows st (in_tag p (w ++ c ∷ [])) refl refl refl refl
taken_matches at c st (in_text p w) = quotes_matches at c p w st (quoted c)
taken_matches at c st (in_escape p w) = follows st (in_text p (w ++ c ∷ [])) refl refl refl refl
taken_matches at c st (in_comment p) = newline_if at p st (is_newline c)

-- a byte
matched : (at b : ℕ) (t : Turn) (o : Option (List Shape × Part)) (r : List Shape × Part) → o ≡ Some r → Matches at b t o → Follows at b t r.0 r.1
matched at b t None r e h = absurd (cc)
matched at b t (Some x) r e h = let same : x ≡ r = cc in subst (λ y. Follows at b t y.0 y.1) same h

limited_follows : (at c : ℕ) (t : Turn) (ls1 ls2 : List Shape) (p1 p2 : Part) → Follows at 0 t ls1 p1 → at < longest →
    taken_shape p1 ls1 c ≡ Some (ls2, p2) → Follows (at + 1) 0 (limited longest at c t) ls2 p2
limited_follows at c t ls1 ls2 p1 p2 (follows st m e s q b) lt h =
    let shaped : taken_shape (part_of m) (each shape_of st) c ≡ Some (ls2, p2) = ap (λ x. taken_shape x (each shape_of st) c) q ∙ ap (λ x. taken_shape p1 x c) s ∙ h in
    let next = subst (λ n. Follows (at + 1) n (taken at st m c) ls2 p2) b (matched (at + 1) (begun at st m) (taken at st m c) _ (ls2, p2) shaped (taken_matches at c st m)) in
    let above : at < begun at st m + longest = omega arith in
    subst (λ x. Follows (at + 1) 0 (limited longest at c x) ls2 p2) (sym e)
    (subst (λ x. Follows (at + 1) 0 (if x then stop (too_long (begun at st m)) else taken at st m c) ls2 p2) (sym (is_above (begun at st m + longest) at above)) next)

-- where the machine is, in words of the grammar
leaves_of : (text rest : List ℕ) (at : ℕ) (st : List Frame) (m : Mode) → Stands text at st m rest → at ≤ longest → begun at st m ≡ 0 →
    LeavesOpen text at rest (each shape_of st) (part_of m)
leaves_of text rest at st between h le b = (le, h.0, st, at, rest, h.1, (refl, refl), refl, b)
leaves_of text rest at st (in_run p w) h le b = (le, h.0, st, p, h.1, h.2, (w, h.3), refl, b)
leaves_of text rest at st (after_hash p w) h le b = (le, h.0, st, p, h.1, h.2, (w, h.3), refl, b)
leaves_of text rest at st (after_backslash p w) h le b = (le, h.0, st, p, h.1, h.2, (w, h.3), refl, b)
leaves_of text rest at st (in_tag p w) h le b = (le, suc h.0, st, p, h.1, h.2, (omega arith, w, h.3), refl, b)
leaves_of text rest at st (in_text p w) h le b = (le, h.0, st, p, h.1, h.2, (w, h.3), refl, b)
leaves_of text rest at st (in_escape p w) h le b = (le, h.0, st, p, h.1, h.2, (w, h.3), refl, b)
leaves_of text rest at st (in_comment p) h le b = (le, h.0, st, p, h.1, h.2, h.3, refl, b)

pub state_of : (part : Part) (n p at : ℕ) (st : List Frame) (text s rest : List ℕ) → Open text n st p s → IsIn part n p s at rest →
    (m : Mode) × (part_of m ≡ part) × (begun at st m ≡ outermost p st) × Stands text at st m rest
state_of part.Between n p at st text s rest o i =
    (between, refl, ap (λ q. outermost q st) (sym i.0), (n, subst (λ q. Open text n st q rest) i.0 (subst (Open text n st p) i.1 o)))
state_of part.Run n p at st text s rest o i = (in_run p i.0, refl, refl, (n, s, o, i.1))
state_of part.Hash n p at st text s rest o i = (after_hash p i.0, refl, refl, (n, s, o, i.1))
state_of part.Backslash n p at st text s rest o i = (after_backslash p i.0, refl, refl, (n, s, o, i.1))
state_of part.Tag zero p at st text s rest o i = (let none = i.0 in absurd (omega arith))
state_of part.Tag (suc n) p at st text s rest o i = (in_tag p i.1, refl, refl, (n, s, o, i.2))
state_of part.Text n p at st text s rest o i = (in_text p i.0, refl, refl, (n, s, o, i.1))
state_of part.Escape n p at st text s rest o i = (in_escape p i.0, refl, refl, (n, s, o, i.1))
state_of part.Comment n p at st text s rest o i = (in_comment p, refl, refl, (n, s, o, i))

after_step : (text rest : List ℕ) (at : ℕ) (t : Turn) (ls : List Shape) (p : Part) → Follows at 0 t ls p → AfterTurn text at rest t → at ≤ longest →
    LeavesOpen text at rest ls p
after_step text rest at t ls p (follows st m e s q b) h le =
    subst (LeavesOpen text at rest ls) q (subst (λ x. LeavesOpen text at rest x (part_of m)) s (leaves_of text rest at st m (subst (AfterTurn text at rest) e h).0 le b))

-- what a byte ends before itself leaves open, where the machine is
pub follows_ended : (text rest : List ℕ) (at c : ℕ) (st : List Frame) (m : Mode) (ls1 : List Shape) (p1 : Part) → Stands text at st m rest → begun at st m ≡ 0 →
    ended_shape (part_of m) (each shape_of st) c ≡ Some (ls1, p1) → Follows at 0 (ended at st m c) ls1 p1
follows_ended text rest at c st m ls1 p1 stands first shaped =
    subst (λ b. Follows at b (ended at st m c) ls1 p1) first (matched at (begun at st m) (ended at st m c) _ (ls1, p1) shaped (ended_matches text rest at c st m stands))

pub one_more_open : (at c : ℕ) (ls ls1 ls2 : List Shape) (p p1 p2 : Part) → ended_shape p ls c ≡ Some (ls1, p1) → at < longest →
    taken_shape p1 ls1 c ≡ Some (ls2, p2) → (text rest : List ℕ) → LeavesOpen text at (c ∷ rest) ls p → LeavesOpen text (at + 1) rest ls2 p2
one_more_open at c ls ls1 ls2 p p1 p2 e lt f text rest seen =
    let st = seen.2 in
    let state = state_of p seen.1 seen.3 at st text seen.4 (c ∷ rest) seen.5 seen.6 in
    let m = state.0 in
    let first_byte : begun at st m ≡ 0 = state.2 ∙ seen.8 in
    let shaped : ended_shape (part_of m) (each shape_of st) c ≡ Some (ls1, p1) = ap (λ x. ended_shape x (each shape_of st) c) state.1 ∙ ap (λ x. ended_shape p x c) seen.7 ∙ e in
    let first_half = follows_ended text (c ∷ rest) at c st m ls1 p1 state.3 first_byte shaped in
    after_step text rest (at + 1) (step longest at st m c) ls2 p2 (limited_follows at c (ended at st m c) ls1 ls2 p1 p2 first_half lt f)
    (step_holds at c text rest st m state.3 (omega arith)) (omega arith)

pub none_seen : (ls : List Shape) → ls ≡ [] → LeavesOpen [] 0 [] ls part.Between
none_seen ls e = (omega arith, 64, [], 0, [], none_open no_blank_yet, (refl, refl), sym e, refl)

-- what is open
end_run : (at : ℕ) (st : List Frame) (m : Mode) → run longest at st m [] ≡ at_end at m st
unfolding run
end_run at st m = refl

partial_at : (text : List ℕ) (p : ℕ) → run longest 0 [] between text ≡ partial p → p ≡ 0 → IsUnfinished text 0
partial_at text p e z = subst (IsUnfinished text) z (unfinished_of text p e)

blank_at : (text : List ℕ) (p : ℕ) → run longest 0 [] between text ≡ blank p → p ≡ 0 → IsBlankText text 0
blank_at text p e z = subst (IsBlankText text) z (subst (What text) e (what text))

not_zero : (n : ℕ) → (suc n == 0) ≡ false
not_zero n = search (rules, tests)

open_case : (text : List ℕ) (st : List Frame) (m : Mode) (b : Bool) → (part_of m ≡ part.Comment → (length (each shape_of st) == 0) ≡ b) →
    ((part_of m ≡ part.Comment → ⊥) → false ≡ b) → 0 < length text → begun (length text) st m ≡ 0 → run longest 0 [] between text ≡ at_end (length text) m st →
    IsOpenText b text
open_case text [] between b f g lt z e = absurd (omega arith)
open_case text (h ∷ st) between b f g lt z e = subst (λ x. IsOpenText x text) (g (λ i. cc)) (partial_at text _ e z)
open_case text st (in_run p w) b f g lt z e = subst (λ x. IsOpenText x text) (g (λ i. cc)) (partial_at text _ e z)
open_case text st (after_hash p w) b f g lt z e = subst (λ x. IsOpenText x text) (g (λ i. cc)) (partial_at text _ e z)
open_case text st (after_backslash p w) b f g lt z e = subst (λ x. IsOpenText x text) (g (λ i. cc)) (partial_at text _ e z)
open_case text st (in_tag p w) b f g lt z e = subst (λ x. IsOpenText x text) (g (λ i. cc)) (partial_at text _ e z)
open_case text st (in_text p w) b f g lt z e = subst (λ x. IsOpenText x text) (g (λ i. cc)) (partial_at text _ e z)
open_case text st (in_escape p w) b f g lt z e = subst (λ x. IsOpenText x text) (g (λ i. cc)) (partial_at text _ e z)
open_case text [] (in_comment p) b f g lt z e = subst (λ x. IsOpenText x text) (f refl) (blank_at text p e z)
open_case text (h ∷ st) (in_comment p) b f g lt z e = subst (λ x. IsOpenText x text) (sym (not_zero (length (each shape_of st))) ∙ f refl) (partial_at text _ e z)

-- what tells whether a comment alone is open
pub seen_open : (skim : Skim) (text : List ℕ) (b : Bool) → (skim.part ≡ part.Comment → (length (shapes_of skim.levels.items) == 0) ≡ b) →
    ((skim.part ≡ part.Comment → ⊥) → false ≡ b) → HasSeen skim text → 0 < length text → IsOpenText b text
seen_open skim text b f g seen lt =
    let at = skim.length in
    let size : at ≡ length text = seen.0 in
    let it = seen.1 in
    let st = it.2 in
    let state = state_of skim.part it.1 it.3 at st text it.4 [] it.5 it.6 in
    let m = state.0 in
    open_case text st m b (λ i. ap (λ (ls : List Shape). length ls == 0) it.7 ∙ f (sym state.1 ∙ i)) (λ n. g (λ i. n (state.1 ∙ i))) lt
    (ap (λ k. begun k st m) (sym size) ∙ state.2 ∙ it.8)
    (stands_run text at st m [] state.3 it.0 ∙ end_run at st m ∙ ap (λ k. at_end k m st) size)

-- going on
pub nothing_gone : (skim : Skim) → HasGone skim skim []
nothing_gone skim = (omega arith, λ text rest h. h)

pub gone_twice : (a b d : Skim) (s t : List ℕ) → HasGone a b s → HasGone b d t → HasGone a d (s ++ t)
gone_twice a b d s t g h = (
  (let e = length-append s t in let i : b.length ≡ a.length + length s = g.0 in let j : d.length ≡ b.length + length t = h.0 in omega arith),
  λ text rest seen. h.1 text rest (g.1 text (t ++ rest) (subst (λ l. LeavesOpen text a.length l (shapes_of a.levels.items) a.part) (append_assoc s t rest) seen)),
)

-- more bytes behind a text
in_longer : (part : Part) (n p q : ℕ) (s t : List ℕ) → IsIn part n p s q t → (x : List ℕ) → IsIn part n p (s ++ x) q (t ++ x)
in_longer part.Between n p q s t i x = (i.0, ap (λ l. l ++ x) i.1)
in_longer part.Run n p q s t i x = (i.0, inside_longer i.1 x)
in_longer part.Hash n p q s t i x = (i.0, one_longer i.1 x)
in_longer part.Backslash n p q s t i x = (i.0, one_longer i.1 x)
in_longer part.Tag n p q s t i x = (i.0, i.1, tag_longer i.2 x)
in_longer part.Text n p q s t i x = (i.0, text_longer i.1 x)
in_longer part.Escape n p q s t i x = (i.0, escape_longer i.1 x)
in_longer part.Comment n p q s t i x = comment_longer i x

leaves_longer : (old : Skim) (text piece : List ℕ) → HasSeen old text → LeavesOpen (text ++ piece) old.length piece (shapes_of old.levels.items) old.part
leaves_longer old text piece seen =
    let h = seen.1 in (h.0, h.1, h.2, h.3, h.4 ++ piece, open_longer h.5 piece, in_longer old.part h.1 h.3 old.length h.4 [] h.6 piece, h.7, h.8)

pub seen_gone : (old new : Skim) (text piece : List ℕ) → HasGone old new piece → HasSeen old text → HasSeen new (text ++ piece)
seen_gone old new text piece g seen = (
  (let e = length-append text piece in let i : new.length ≡ old.length + length piece = g.0 in let j : old.length ≡ length text = seen.0 in omega arith),
  g.1 (text ++ piece) [] (subst (λ l. LeavesOpen (text ++ piece) old.length l (shapes_of old.levels.items) old.part) (sym (append-nil piece)) (leaves_longer old text piece seen)),
)

pub seen_stopped : (old : Skim) (text piece : List ℕ) (is_comment : Bool) → HasStopped old piece → HasSeen old text → IsOpenText is_comment (text ++ piece) → ⊥
seen_stopped old text piece is_comment stopped seen is = stopped (text ++ piece) is_comment (leaves_longer old text piece seen) is

-- in a list or vector
row_shape : (b : Bool) (o : ℕ) (vs : List Value) → shape_of (frame (bracket_of b) o vs) ≡ brackets (bracket_of b) true
row_shape true o vs = refl
row_shape false o vs = refl

round_shapes : (is_tagged b : Bool) (begun o : ℕ) (st : List Frame) (vs : List Value) → IsRound is_tagged begun o st → begun ≡ 0 →
    (each shape_of (frame (bracket_of b) o vs ∷ st) ≡ row_shapes is_tagged b) × (outermost o st ≡ 0)
round_shapes true b begun o st vs round first = (
  ap (λ (fs : List Frame). each shape_of (frame (bracket_of b) o vs ∷ fs)) round.2 ∙ ap (λ l. l ∷ a_tag ∷ []) (row_shape b o vs),
  ap (outermost o) round.2 ∙ first,
)
round_shapes false b begun o st vs round first = (
  ap (λ (fs : List Frame). each shape_of (frame (bracket_of b) o vs ∷ fs)) round.1 ∙ ap (λ l. l ∷ []) (row_shape b o vs),
  ap (outermost o) round.1 ∙ round.0 ∙ first,
)

row_leaves : (r : Series) (text : List ℕ) (vs : List Value) → r.begun ≡ 0 → IsRow r text vs →
    LeavesOpen text r.at (drop r.at text) (row_shapes r.is_tagged r.is_vector) part.Between
row_leaves r text vs first row =
    let round = round_shapes r.is_tagged r.is_vector r.begun row.2 row.3 vs row.4 first in
    (row.1, row_levels r, frame (bracket_of r.is_vector) row.2 vs ∷ row.3, r.at, drop r.at text, row.5, (refl, refl), round.0, round.1)

pub seen_in : (r : Series) (text : List ℕ) (vs : List Value) (old new : Skim) → old.length ≡ r.at → shapes_of old.levels.items ≡ row_shapes r.is_tagged r.is_vector →
    old.part ≡ part.Between → r.begun ≡ 0 → HasGone old new (drop r.at text) → IsRow r text vs → HasSeen new text
seen_in r text vs old new size shapes is_between first g row =
    let rest = drop r.at text in (
      (let e = length-drop r.at text in let i : r.at ≤ length text = row.0 in let j : new.length ≡ old.length + length rest = g.0 in omega arith),
      g.1 text [] (rw (size, shapes, is_between, append-nil rest) (row_leaves r text vs first row)),
    )

pub stopped_in : (r : Series) (text : List ℕ) (vs : List Value) (is_comment : Bool) (old : Skim) → old.length ≡ r.at →
    shapes_of old.levels.items ≡ row_shapes r.is_tagged r.is_vector → old.part ≡ part.Between → r.begun ≡ 0 → HasStopped old (drop r.at text) → IsRow r text vs →
    IsOpenText is_comment text → ⊥
stopped_in r text vs is_comment old size shapes is_between first stopped row is =
    stopped text is_comment (rw (size, shapes, is_between) (row_leaves r text vs first row)) is

-- bytes that leave open what is open
pub still_more : (old now : Skim) (bytes : List ℕ) (at : ℕ) → at < length bytes → now.part ≡ old.part → IsMoreOf old bytes → is_more_of now.part (get_or bytes at 0) ≡ true
still_more old now bytes at lt same m = subst (λ p. is_more_of p (get_or bytes at 0) ≡ true) (sym same) (m.0 at lt)

pub still_short : (old now : Skim) (bytes : List ℕ) (at : ℕ) → at < length bytes → HasGone old now (take at bytes) → IsMoreOf old bytes → now.length < longest
still_short old now bytes at lt gone m =
    let size : now.length ≡ old.length + length (take at bytes) = gone.0 in
    let taken : length (take at bytes) ≡ at = length-take-le at bytes (omega arith) in
    let most : old.length + length bytes ≤ longest = m.1 in
    omega arith
