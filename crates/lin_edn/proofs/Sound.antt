-- What the machine answers is so.
use Rattle.std.proofs.Common.{◌≡◌, ℕ, List, [], subst, Result, Ok, Err}
use Rattle.lin_edn.proofs.Alone.{no_partial, no_long}
use Rattle.lin_edn.proofs.Back.{What, what}
use Rattle.lin_edn.proofs.Fronts.{Facts, facts_of}
use Rattle.lin_edn.specs.Grammar.{longest, IsUnfinished, IsTooLong}
use Rattle.lin_edn.specs.inner.Machine.{partial, fault, too_long, run, between}
use Rattle.lin_edn.specs.Reading.{Says, Refuses, IsWrong}
use Rattle.lin_edn.specs.inner.Turns.{Answers, IsFault}
use Rattle.lin_edn.specs.declared.EdnCause.{EdnCause}
use Rattle.lin_edn.specs.declared.EdnCause.TheVariants.{Unbalanced, OddMap, TooDeep, TooLong, OutOfMemory}
use Rattle.lin_edn.specs.declared.EdnFault.{EdnFault}
use Rattle.lin_edn.specs.declared.Next.{Next}
use Rattle.lin_edn.specs.declared.Next.TheVariants.{Complete, Partial, Blank}

pub wrong_of : (s : List ℕ) (j i : ℕ) (k : EdnCause) → run longest 0 [] between s ≡ fault j i k → IsWrong s i k
wrong_of s j i k e = let w = subst (What s) e (what s) in (j, subst (Facts s) e (facts_of s), w.1, w.0)

pub unfinished_of : (s : List ℕ) (p : ℕ) → run longest 0 [] between s ≡ partial p → IsUnfinished s p
unfinished_of s p e = let f = subst (Facts s) e (facts_of s) in (f.0, f.1, no_partial s p e, f.2.0, f.2.1, f.3.0, f.3.1, f.3.2, f.3.3)

pub too_long_of : (s : List ℕ) (p : ℕ) → run longest 0 [] between s ≡ too_long p → IsTooLong s p
too_long_of s p e = let f = subst (Facts s) e (facts_of s) in (f.0, no_long s p e, f.1.0, f.1.1, f.2.0, f.2.1, f.2.2, f.2.3)

refuses_of : (s : List ℕ) (at : ℕ) (k : EdnCause) → IsFault (run longest 0 [] between s) at k → Refuses s at k
refuses_of s at Unbalanced h = wrong_of s h.0 at Unbalanced h.1
refuses_of s at OddMap h = wrong_of s h.0 at OddMap h.1
refuses_of s at TooDeep h = wrong_of s h.0 at TooDeep h.1
refuses_of s at TooLong h = too_long_of s at h
refuses_of s at OutOfMemory h = h

pub says_of : (s : List ℕ) (r : Result Next EdnFault) → Answers (run longest 0 [] between s) r → Says s r
says_of s (Ok (Complete v at used)) h = subst (What s) h (what s)
says_of s (Ok (Partial at)) h = unfinished_of s at h
says_of s (Ok (Blank used)) h = subst (What s) h (what s)
says_of s (Err f) h = refuses_of s f.at f.cause h
