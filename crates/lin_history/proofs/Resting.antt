-- Unfinished bytes, as what is read of them.
use Rattle.std.proofs.Common.{◌≡◌, ℕ, ◌+◌, ◌<◌, ◌==◌, Bool, true, false, List, [], ◌∷◌, ◌++◌, Ok, Err, length, refl, sym, ap, subst, arith, append-nil}
use Rattle.std.proofs.lemmas.Bool.Decides.{nat_tests}
use Rattle.lin_edn.specs.Grammar.{IsBlankText, nothing_more, no_blank_yet}
use Rattle.lin_edn.specs.Skimming.{HasSeen, IsOpenText}
use Rattle.lin_history.specs.Reading.{Reading}
use Rattle.lin_history.specs.inner.Rests.{GoesOn}
use Rattle.lin_history.specs.declared.follow.Rest.{Rest}
use Rattle.lin_history.specs.Stream.{nothing, blank, unfinished}
use Rattle.lin_history.specs.PassedMaps.{nothing as passes_nothing}
use Rattle.lin_history.specs.inner.Passing.{Gathered}
use Rattle.lin_history.specs.inner.Reads.{IsReadTo}
use Rattle.lin_history.specs.declared.follow.FollowFault.TheVariants as fault
use Rattle.lin_history.proofs.Counting.{over_nothing}

pub none_is_blank : (text : List ℕ) → length text ≡ 0 → IsBlankText text 0
none_is_blank [] e = nothing_more no_blank_yet
none_is_blank (c ∷ text) e = absurd (omega arith)

pub rests_blank : (k : Reading) (text : List ℕ) (p : ℕ) (ready : Gathered) → IsOpenText true text →
    IsReadTo k text p ready ready (record { used = 0; outcome = Ok tt })
rests_blank k text p ready u = record {
  events = [];
  outcome = Ok tt;
  put = sym (append-nil ready.items);
  inside = omega arith;
  is_stream = blank nothing u;
  told = refl;
  goes_on = λ h. nothing;
  over = λ h. over_nothing text (Ok tt) ready.passed 0 passes_nothing (λ ok. (0, 0, passes_nothing, u));
}

pub rests_unfinished : (k : Reading) (text : List ℕ) (p : ℕ) (ready : Gathered) → IsOpenText false text →
    IsReadTo k text p ready ready (record { used = 0; outcome = Err (fault.Truncated p) })
rests_unfinished k text p ready u = record {
  events = [];
  outcome = Err (fault.Truncated (0 + 0));
  put = sym (append-nil ready.items);
  inside = omega arith;
  is_stream = unfinished 0 nothing u;
  told = (let e : p ≡ p + (0 + 0) = omega arith in ap (λ n. Err (fault.Truncated n)) e);
  goes_on = λ h. nothing;
  over = λ h. over_nothing text (Err (fault.Truncated (0 + 0))) ready.passed 0 passes_nothing (λ ok. cc);
}

pub is_zero : (n : ℕ) → (n == 0) ≡ true → n ≡ 0
is_zero n h = grind (arith, nat_tests)

pub is_some : (n : ℕ) → (n == 0) ≡ false → 0 < n
is_some n h = grind (arith, nat_tests)

pub gone_on : (b : Bool) (rest : Rest) (text : List ℕ) → rest.is_seen ≡ b → (b ≡ true → HasSeen rest.skim text) → GoesOn rest text b
gone_on true rest text e h = (e, h refl)
gone_on false rest text e h = e

-- the bytes that are held, with a new piece behind them, are still unfinished
pub held_goes_on : (rest : Rest) (text piece held : List ℕ) (b : Bool) → held ≡ text ++ piece → b ≡ true → GoesOn rest (text ++ piece) b → GoesOn rest held true
held_goes_on rest text piece held b is goes h = subst (λ (l : List ℕ). GoesOn rest l true) (sym is) (subst (λ b. GoesOn rest (text ++ piece) b) goes h)
