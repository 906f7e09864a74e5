-- What is read of a file in several calls.
use Rattle.std.proofs.Common.{◌≡◌, ◌+◌, ◌<◌, ◌≤◌, ◌^◌, true, false, refl, nat_lt, ltb-true, ltb-false, ◌∷◌, [], ℕ, List, Bool, Option, None, Some, Result, Ok, Err, MatchOption, MatchResult, IfOk, IfNone, IfSome, length, take, ◌++◌, arith, length-append, append-nil, ap, ◌∙◌, subst}
use Rattle.std.specs.Prelude.{if◌then◌else◌}
use Rattle.std.proofs.KnownBytes.{Consumes-trans}
use Rattle.std.proofs.lemmas.List.{length-take-le}
use Rattle.std.specs.Io.KnownBytes.{Consumes, IsAtEnd}
use Rattle.lin_formats.specs.Histories.{EndsFor, IsHistory, IsHistoryFor, StopsFor, with_least}
use Rattle.lin_formats.specs.Inputs.{AreRefused, IsWhole}
use Rattle.lin_texts.specs.declared.faults.RunFault.{RunFault}
use Rattle.lin_formats.specs.declared.verdicts.Refusal.{Refusal}
use Rattle.lin_formats.specs.declared.verdicts.Refusal.TheVariants.{Edn, Event, Truncated, Full, BadPair, Few}
use Rattle.lin_formats.specs.declared.inputs.History.{History}
use Rattle.lin_formats.specs.declared.inputs.History.TheVariants.{Whole, Refused}

pub stops_at_end : (r : Refusal) (left : Option (List ℕ)) → IsAtEnd left → StopsFor r left
stops_at_end (Edn at cause) left end = tt
stops_at_end (Event at cause) left end = tt
stops_at_end (Truncated at) left end = end
stops_at_end Full left end = tt
stops_at_end (BadPair at) left end = end
stops_at_end (Few count wanted) left end = end

-- at its end a reader may stop for whatever is found
pub ends_at_end : (h : History) (left : Option (List ℕ)) → IsAtEnd left → EndsFor h left
ends_at_end (Whole events) left end = end
ends_at_end (Refused refusal) left end = stops_at_end refusal left end

-- a history of too few events is refused
pub limited : (least : ℕ) (keyed : Bool) (names : List (List ℕ)) (text : List ℕ) (h : History) → IsHistory keyed names text h
    → IsHistoryFor least keyed names text (with_least least h)
limited least keyed names text (Whole events) whole = by (nat_lt (length events.items) least) refl
  where
    by : (few : Bool) → nat_lt (length events.items) least ≡ few → IsHistoryFor least keyed names text (if few then Refused (Few (length events.items) least) else Whole events)
    by true is = (events.items, whole, refl, refl, ltb-true (length events.items) least is)
    by false is = (whole, ltb-false (length events.items) least is)
limited least keyed names text (Refused (Edn at cause)) is = is
limited least keyed names text (Refused (Event at cause)) is = is
limited least keyed names text (Refused (Truncated at)) is = is
limited least keyed names text (Refused Full) is = is
limited least keyed names text (Refused (BadPair at)) is = is
limited least keyed names text (Refused (Few count wanted)) is = absurd is

-- the reader came as far for that as it did
pub limited_ends : (least : ℕ) (h : History) (left : Option (List ℕ)) → EndsFor h left → EndsFor (with_least least h) left
limited_ends least (Whole events) left end = by (nat_lt (length events.items) least)
  where
    by : (few : Bool) → EndsFor (if few then Refused (Few (length events.items) least) else Whole events) left
    by true = end
    by false = end
limited_ends least (Refused refusal) left end = end

-- some more bytes are one more at least
pub longer : (turn count : ℕ) (text piece : List ℕ) → turn ≤ length text → count ≤ length piece → 0 < count
    → (turn + 1 ≤ length (text ++ take count piece)) × (length text + length (take count piece) ≡ length (text ++ take count piece))
longer turn count text piece so_far within some =
    let size = length-take-le count piece within in
    let both = length-append text (take count piece) in
    (omega arith, omega arith)

-- a read that gave nothing
pub consumed_end : (a b c : Option (List ℕ)) (text piece : List ℕ) (count : ℕ) → Consumes a b text → Consumes b c (take count piece) → count ≡ 0
    → Consumes a c text
consumed_end a b c text piece count first last none =
    subst (Consumes a c) (ap (λ n. text ++ take n piece) none ∙ append-nil text) (Consumes-trans a b c text (take count piece) first last)

-- why the file is refused
pub refused_for : (r : Option Refusal) (refusal : Refusal) (read keyed : Bool) (names : List (List ℕ)) (text : List ℕ) (P : Type 0) → r ≡ Some refusal
    → read ≡ keyed → MatchOption r P (AreRefused read names text) → AreRefused keyed names text refusal
refused_for r refusal read keyed names text P is same said =
    subst (λ k. AreRefused k names text refusal) same (subst (λ o. MatchOption o P (AreRefused read names text)) is said)

pub stops_for : (r : Option Refusal) (refusal : Refusal) (left : Option (List ℕ)) → r ≡ Some refusal
    → IfSome r (λ x. (l : Option (List ℕ)) → StopsFor x l) → StopsFor refusal left
stops_for r refusal left is stops = subst (λ o. IfSome o (λ x. (l : Option (List ℕ)) → StopsFor x l)) is stops left

-- what is known where the file is not refused
pub not_refused : (r : Option Refusal) (P : Type 0) (Q : Refusal → Type 0) → r ≡ None → MatchOption r P Q → P
not_refused r P Q none said = subst (λ o. MatchOption o P Q) none said

pub not_refused_so : (r : Option Refusal) (P : Type 0) → r ≡ None → IfNone r P → P
not_refused_so r P none said = subst (λ o. IfNone o P) none said

-- a first piece is not too long, and a later one was tested
pub fits : (faulty : Bool) (text piece : List ℕ) → length piece ≤ 65536 → (0 < length text → faulty ≡ false)
    → (faulty ≡ false → length text + length piece ≤ 2 ^ 40) → (whole : List ℕ) → length text + length piece ≡ length whole → length whole ≤ 2 ^ 40
fits faulty [] piece small going tested whole same = omega (arith, small, same)
fits faulty (c ∷ text) piece small going tested whole same = omega (arith, tested (going (omega arith)), same)
