-- A text allows one answer, blanks in front move it, and more bytes change no fault.
use Rattle.std.proofs.Common.{◌≡◌, ℕ, List, [], ◌++◌, refl, sym, ap, ◌∙◌, subst, add-zero, drop, arith}
use Rattle.lin_edn.specs.Grammar.{longest, Faulty, unbalanced, odd_map, too_deep, hash_too_deep}
use Rattle.lin_edn.specs.Laws.{reading_later, BlanksAreSkipped, ReadingsAreUnique, ValuesAreUnique}
use Rattle.lin_edn.specs.inner.Machine.{Answer, complete, blank, partial, fault, too_long, run, between}
use Rattle.lin_edn.specs.Reading.{Reading, an_element, unfinished, blanks, refused, Allows, IsWantOfMemory, Refuses, IsWrong}
use Rattle.lin_edn.specs.declared.EdnCause.{EdnCause}
use Rattle.lin_edn.specs.declared.EdnCause.TheVariants.{Unbalanced, OddMap, TooDeep, TooLong, OutOfMemory}
use Rattle.lin_edn.proofs.Forth.{short_run, spells_run, blank_input}
use Rattle.lin_edn.proofs.Back.{What, what}
use Rattle.lin_edn.proofs.Later.{answer_later, run_later}
use Rattle.lin_edn.specs.lemmas.Longer.{wrong_stays}
use Rattle.lin_edn.proofs.Only.{unfinished_run, too_long_run, wrong_run}
use Rattle.lin_edn.proofs.Order.{run_more}
use Rattle.lin_edn.proofs.Sizes.{short_tail, tail_drop}
use Rattle.lin_edn.proofs.Sound.{unfinished_of, too_long_of, wrong_of}

-- the machine's answer as a reading
abbrev read_as : Answer → Reading
read_as (complete v p q) = an_element v p q
read_as (blank q) = blanks q
read_as (partial p) = unfinished p
read_as (fault j i k) = refused i k
read_as (too_long p) = refused p TooLong

refused_run : (s : List ℕ) (at : ℕ) (k : EdnCause) → Refuses s at k → (IsWantOfMemory (refused at k) → ⊥) → read_as (run longest 0 [] between s) ≡ refused at k
refused_run s at Unbalanced h known = ap read_as (wrong_run s at Unbalanced h)
refused_run s at OddMap h known = ap read_as (wrong_run s at OddMap h)
refused_run s at TooDeep h known = ap read_as (wrong_run s at TooDeep h)
refused_run s at TooLong h known = ap read_as (too_long_run s at h)
refused_run s at OutOfMemory h known = absurd (known tt)

pub allowed_run : (s : List ℕ) (a : Reading) → Allows s a → (IsWantOfMemory a → ⊥) → read_as (run longest 0 [] between s) ≡ a
allowed_run s (an_element v at used) h known = ap read_as (spells_run h)
allowed_run s (unfinished at) h known = ap read_as (unfinished_run s at h)
allowed_run s (blanks used) h known = ap read_as (blank_input h)
allowed_run s (refused at k) h known = refused_run s at k h known

pub unique : ReadingsAreUnique
unique s a b h k known told = sym (allowed_run s a h known) ∙ allowed_run s b k told

pub one_value : ValuesAreUnique
one_value s v w at from used until h k = let e = spells_run h in let f = spells_run k in (cc, cc, cc)

-- what the machine answers is allowed
allowed_fault : (s : List ℕ) (j i : ℕ) (k : EdnCause) → Faulty s j i k → IsWrong s i k → Refuses s i k
allowed_fault s j i k (unbalanced o h f) w = w
allowed_fault s j i k (odd_map o m) w = w
allowed_fault s j i k (too_deep o h) w = w
allowed_fault s j i k (hash_too_deep o b h) w = w

allowed_of : (s : List ℕ) (a : Answer) → run longest 0 [] between s ≡ a → Allows s (read_as a)
allowed_of s (complete v p q) e = subst (What s) e (what s)
allowed_of s (blank q) e = subst (What s) e (what s)
allowed_of s (partial p) e = unfinished_of s p e
allowed_of s (fault j i k) e = allowed_fault s j i k (subst (What s) e (what s)).0 (wrong_of s j i k e)
allowed_of s (too_long p) e = too_long_of s p e

-- blanks in front
read_later : (n : ℕ) (a : Answer) → read_as (answer_later n a) ≡ reading_later n (read_as a)
read_later n (complete v p q) = refl
read_later n (blank q) = refl
read_later n (partial p) = refl
read_later n (fault j i k) = refl
read_later n (too_long p) = refl

pub skipped : BlanksAreSkipped
skipped s t n a bs h known =
    let here : drop n s ≡ t = sym (tail_drop (short_tail bs) ∙ ap (λ m. drop m s) (omega arith)) in
    let same : run longest 0 [] between s ≡ answer_later n (run longest 0 [] between t) =
    short_run bs ∙ ap (λ x. run longest x [] between t) (sym (add-zero n)) ∙ run_later longest n 0 t [] between in
    subst (Allows s) (ap read_as same ∙ read_later n (run longest 0 [] between t) ∙ ap (reading_later n) (allowed_run t a (subst (λ l. Allows l a) here h) known))
    (allowed_of s (run longest 0 [] between s) refl)

-- more bytes
pub fault_stays : (s x : List ℕ) (at : ℕ) (k : EdnCause) → Refuses s at k → Refuses (s ++ x) at k
fault_stays s x at Unbalanced h = wrong_stays s x at Unbalanced h
fault_stays s x at OddMap h = wrong_stays s x at OddMap h
fault_stays s x at TooDeep h = wrong_stays s x at TooDeep h
fault_stays s x at TooLong h = too_long_of (s ++ x) at (run_more longest 0 s x [] between (too_long at) tt (too_long_run s at h))
fault_stays s x at OutOfMemory h = h
