-- What is written of a text in several calls.
use Rattle.std.proofs.Common.{◌≡◌, ◌==◌, ◌+◌, ◌-◌, ◌<◌, ◌≤◌, ◌&&◌, ℕ, Bool, List, Option, length, take, drop, sym, subst, arith, ne_eqb}
use Rattle.std.specs.Io.KnownBytes.{Appends}
use Rattle.std.proofs.Math.Seq.{take-add}
use Rattle.std.proofs.lemmas.List.{length-drop, take_all}
use Rattle.std.proofs.KnownBytes.{Appends-trans}
use Rattle.lin_formats.specs.Devices.{Counts}

-- one more call took some of the rest
pub written_more : (a b c : Option (List ℕ)) (at taken : ℕ) (text : List ℕ) → Appends a b (take at text)
    → Appends b c (take taken (take (length text - at) (drop at text))) → Appends a c (take (at + taken) text)
written_more a b c at taken text first more =
    let left : length (drop at text) ≤ length text - at = omega (arith, length-drop at text) in
    let all : take (length text - at) (drop at text) ≡ drop at text = take_all (length text - at) (drop at text) left in
    subst (Appends a c) (sym (take-add at taken text))
    (Appends-trans a b c (take at text) (take taken (drop at text)) first (subst (λ s. Appends b c (take taken s)) all more))

-- a call that took some did not fail
pub uncounted : (taken old new : ℕ) (some : Bool) → 0 < taken → Counts ((taken == 0) && some) old new → new ≡ old
uncounted taken old new some took counts =
    subst (λ b. Counts (b && some) old new) (ne_eqb taken 0 (λ (e : taken ≡ 0). absurd (omega arith))) counts
